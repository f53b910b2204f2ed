-- Free and full runs that grow by a block.
use Rattle.std.proofs.Common.{◌≡◌, ◌<◌, ◌+◌, ℕ, Bool, true, false, not, refl, add-one}
use Rattle.std.proofs.lemmas.Bool.{false_from_ne_true, both_ways}
use Rattle.jfs_bits.specs.Bits.{all_below, is_free, is_full}
use Rattle.jfs_bits.proofs.Runs.{all_below-from}
use Rattle.jfs_bits.proofs.Counts.{is_full-at}

-- one more number passes
all_below-more : (n : ℕ) (test : ℕ → Bool) → all_below n test ≡ true → test n ≡ true → all_below (n + 1) test ≡ true
unfolding all_below
all_below-more n test h k = rw (add-one, h, k) refl

-- no blocks are all free
pub is_free-none : (taken : ℕ → Bool) (first : ℕ) → is_free taken first 0 ≡ true
unfolding is_free all_below
is_free-none taken first = refl

-- one more free block
pub is_free-more : (taken : ℕ → Bool) (first n : ℕ) → is_free taken first n ≡ true → taken (first + n) ≡ false → is_free taken first (n + 1) ≡ true
unfolding is_free
is_free-more taken first n h k = all_below-more n (λ i. not (taken (first + i))) h (rw k refl)

-- no blocks are all taken
pub is_full-none : (taken : ℕ → Bool) (first : ℕ) → is_full taken first 0 ≡ true
unfolding is_full all_below
is_full-none taken first = refl

-- one more taken block
pub is_full-more : (taken : ℕ → Bool) (first n : ℕ) → is_full taken first n ≡ true → taken (first + n) ≡ true → is_full taken first (n + 1) ≡ true
unfolding is_full
is_full-more taken first n h k = all_below-more n (λ i. taken (first + i)) h k

-- blocks that are each taken are all taken
pub is_full-from : (taken : ℕ → Bool) (first n : ℕ) → ((i : ℕ) → i < n → taken (first + i) ≡ true) → is_full taken first n ≡ true
unfolding is_full
is_full-from taken first n h = all_below-from n (λ i. taken (first + i)) h

-- a block that isn't taken
pub is_full-not : (taken : ℕ → Bool) (first n i : ℕ) → i < n → taken (first + i) ≡ false → is_full taken first n ≡ false
is_full-not taken first n i h free = false_from_ne_true (is_full taken first n) (λ full. both_ways (taken (first + i)) free (is_full-at taken first n full i h))
