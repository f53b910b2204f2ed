-- Free runs of a word.
use Rattle.std.proofs.Common.{◌≡◌, ◌<◌, ◌≤◌, ◌+◌, ◌-◌, ◌/◌, ◌%◌, ◌^◌, ℕ, zero, suc, Bool, true, false, not, inl, inr, refl, sym, ap, ◌∙◌, arith}
use Rattle.std.specs.Prelude.{◌==◌}
use Rattle.std.specs.Int.{bit_at}
use Rattle.std.proofs.lemmas.Bool.Decides.{nat_tests}
use Rattle.std.proofs.lemmas.Bool.{and_parts, and_from, cases_eq, not-true, not_from_false}
use Rattle.std.proofs.lemmas.Nat.{shr-shr, shr_split, pow_pos}
use Rattle.std.proofs.lemmas.Nat.Bits.{bit_at_cat_low, bit_at-zero, bit_at-lt, same_from_bits_below}
use Rattle.jfs_bits.specs.Bits.{all_below, is_taken_in, is_free}

-- what a test below `n` tells, and how to show it
pub all_below-at : (n : ℕ) (test : ℕ → Bool) → all_below n test ≡ true → (i : ℕ) → i < n → test i ≡ true
unfolding all_below
all_below-at zero test h i k = absurd (omega arith)
all_below-at (suc n) test h i k =
    let parts = and_parts (all_below n test) (test n) h in
    elim (cases_eq i n) [ inl e ↦ rw e parts.1 | inr e ↦ all_below-at n test parts.0 i (omega arith) ]

pub all_below-from : (n : ℕ) (test : ℕ → Bool) → ((i : ℕ) → i < n → test i ≡ true) → all_below n test ≡ true
unfolding all_below
all_below-from zero test h = refl
all_below-from (suc n) test h = and_from (all_below n test) (test n) (all_below-from n test (λ i k. h i (omega arith))) (h n (omega arith))

-- tests that agree below a number
pub all_below-same : (n : ℕ) (f g : ℕ → Bool) → ((i : ℕ) → i < n → f i ≡ g i) → all_below n f ≡ all_below n g
unfolding all_below
all_below-same zero f g h = refl
all_below-same (suc n) f g h = rw (all_below-same n f g (λ i b. h i (omega arith)), h n (omega arith)) refl

pub is_free-same : (f g : ℕ → Bool) (a b n : ℕ) → ((i : ℕ) → i < n → f (a + i) ≡ g (b + i)) → is_free f a n ≡ is_free g b n
unfolding is_free
is_free-same f g a b n h = all_below-same n (λ i. not (f (a + i))) (λ i. not (g (b + i))) (λ i k. ap not (h i k))

pub is_free-at : (taken : ℕ → Bool) (first n : ℕ) → is_free taken first n ≡ true → (i : ℕ) → i < n → taken (first + i) ≡ false
unfolding is_free
is_free-at taken first n h i k = not-true (taken (first + i)) (all_below-at n (λ i. not (taken (first + i))) h i k)

pub is_free-from : (taken : ℕ → Bool) (first n : ℕ) → ((i : ℕ) → i < n → taken (first + i) ≡ false) → is_free taken first n ≡ true
unfolding is_free
is_free-from taken first n h = all_below-from n (λ i. not (taken (first + i))) (λ i k. not_from_false (taken (first + i)) (h i k))

-- the low `n` bits of a number
low_bit : (x n i : ℕ) → i < n → bit_at x i ≡ bit_at (x % 2 ^ n) i
low_bit x n i k = ap (λ (z : ℕ). bit_at z i) (sym (shr_split x n)) ∙ bit_at_cat_low (x / 2 ^ n) n (x % 2 ^ n) i k

low_bits-zero : (x n : ℕ) → ((i : ℕ) → i < n → bit_at x i ≡ 0) → x % 2 ^ n ≡ 0
low_bits-zero x n h =
    same_from_bits_below n (x % 2 ^ n) 0 (omega (arith, pow_pos n)) (pow_pos n) (λ i k. sym (low_bit x n i k) ∙ h i k ∙ sym (bit_at-zero i))

-- the blocks of an aligned run of a word are the bits of a number
bit_of-run : (word first n i : ℕ) → first + n ≤ 32 → i < n → bit_at (word / 2 ^ (32 - (first + n))) (n - 1 - i) ≡ bit_at word (31 - (first + i))
bit_of-run word first n i h k =
    let e : 32 - (first + n) + (n - 1 - i) ≡ 31 - (first + i) = omega arith in
    ap (λ (z : ℕ). z % 2) (shr-shr word (32 - (first + n)) (n - 1 - i)) ∙ ap (λ (z : ℕ). bit_at word z) e

pub is_free-number : (word first n : ℕ) → first + n ≤ 32 → word / 2 ^ (32 - (first + n)) % 2 ^ n ≡ 0 → is_free (is_taken_in word) first n ≡ true
unfolding is_taken_in
is_free-number word first n h zeros =
    is_free-from (is_taken_in word) first n (λ i k.
    ap (λ (z : ℕ). z == 1) (sym (bit_of-run word first n i h k) ∙ low_bit (word / 2 ^ (32 - (first + n))) n (n - 1 - i) (omega arith) ∙ ap (λ (z : ℕ). bit_at z (n - 1 - i)) zeros ∙ bit_at-zero (n - 1 - i)))

pub number-is_free : (word first n : ℕ) → first + n ≤ 32 → is_free (is_taken_in word) first n ≡ true → word / 2 ^ (32 - (first + n)) % 2 ^ n ≡ 0
unfolding is_taken_in
number-is_free word first n h free =
    low_bits-zero (word / 2 ^ (32 - (first + n))) n (λ i k.
    let back : n - 1 - (n - 1 - i) ≡ i = omega arith in
    rw back at (bit_of-run word first n (n - 1 - i) h (omega arith)) ∙ clear (bit_at word (31 - (first + (n - 1 - i)))) (bit_at-lt word (31 - (first + (n - 1 - i)))) (is_free-at (is_taken_in word) first n free (n - 1 - i) (omega arith)))
  where
    clear : (b : ℕ) → b < 2 → (b == 1) ≡ false → b ≡ 0
    clear b h e = grind (arith, nat_tests)
