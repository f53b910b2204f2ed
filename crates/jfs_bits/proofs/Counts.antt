-- How many numbers pass a test, and how many blocks are free after a run of them was taken or given back.
use Rattle.std.proofs.Common.{◌≡◌, ◌<◌, ◌≤◌, ◌+◌, ◌-◌, ◌*◌, ◌/◌, ℕ, zero, suc, Bool, true, false, ◌&&◌, ◌||◌, not, ◌⊎◌, inl, inr, add-one, add-suc, refl, arith}
use Rattle.std.specs.Prelude.{min, nat_le, nat_lt, if◌then◌else◌}
use Rattle.std.proofs.lemmas.Bool.{cases_lt, le-leb, lt-leb, lt-ltb, le-ltb, and_from, and_left, and_right}
use Rattle.jfs_bits.specs.Bits.{is_free, is_in_run, count_below, is_full}
use Rattle.jfs_bits.proofs.Runs.{is_free-at, all_below-at}

pub in_run : (first n b : ℕ) → first ≤ b → b < first + n → is_in_run first n b ≡ true
in_run first n b h k = and_from (nat_le first b) (nat_lt b (first + n)) (le-leb first b h) (lt-ltb b (first + n) k)

pub before_run : (first n b : ℕ) → b < first → is_in_run first n b ≡ false
before_run first n b h = and_left (nat_le first b) (nat_lt b (first + n)) (lt-leb first b h)

pub behind_run : (first n b : ℕ) → first + n ≤ b → is_in_run first n b ≡ false
behind_run first n b h = and_right (nat_le first b) (nat_lt b (first + n)) (le-ltb b (first + n) h)

-- a word beside the words of a run has none of its blocks
pub beside_run : (first n v i : ℕ) → i < 32 → (v < first / 32) ⊎ ((first + n + 31) / 32 ≤ v) → is_in_run first n (32 * v + i) ≡ false
beside_run first n v i h (inl a) = before_run first n (32 * v + i) (omega arith)
beside_run first n v i h (inr b) = behind_run first n (32 * v + i) (omega arith)

pub is_full-at : (taken : ℕ → Bool) (first n : ℕ) → is_full taken first n ≡ true → (i : ℕ) → i < n → taken (first + i) ≡ true
unfolding is_full
is_full-at taken first n h i k = all_below-at n (λ i. taken (first + i)) h i k

pub count_below-same : (m : ℕ) (f g : ℕ → Bool) → ((b : ℕ) → b < m → f b ≡ g b) → count_below m f ≡ count_below m g
unfolding count_below
count_below-same zero f g h = refl
count_below-same (suc m) f g h = rw (count_below-same m f g (λ b k. h b (omega arith)), h m (omega arith)) refl

pub count_below-next : (m : ℕ) (f : ℕ → Bool) → count_below (m + 1) f ≡ count_below m f + (if f m then 1 else 0)
unfolding count_below
count_below-next m f = rw add-one refl

pub count_below-none : (f : ℕ → Bool) → count_below 0 f ≡ 0
unfolding count_below
count_below-none f = refl

pub count_below-most : (m : ℕ) (f : ℕ → Bool) → count_below m f ≤ m
unfolding count_below
count_below-most zero f = omega arith
count_below-most (suc m) f = elim (f m) as (λ z. count_below m f + (if z then 1 else 0) ≤ suc m) [ true ↦ omega (arith, count_below-most m f) | false ↦ omega (arith, count_below-most m f) ]

-- the blocks of a run among the first `m`
abbrev pub overlap : ℕ → ℕ → ℕ → ℕ
overlap first n m = min m (first + n) - min m first

count-mark : (first n m : ℕ) (t : ℕ → Bool) → ((i : ℕ) → i < n → t (first + i) ≡ false) → count_below m (λ b. not (is_in_run first n b || t b)) + overlap first n m ≡ count_below m (λ b. not (t b))
unfolding count_below
count-mark first n zero t h = omega arith
count-mark first n (suc m) t h =
    let ih = count-mark first n m t h in
    elim (cases_lt m first) [
      | inl a ↦ rw (before_run first n m a) (omega (arith, ih))
      | inr a ↦ elim (cases_lt m (first + n)) [
        | inl b ↦ (let there : first + (m - first) ≡ m = omega arith in let free : t m ≡ false = rw there at (h (m - first) (omega arith)) in rw (in_run first n m a b, free) (omega (arith, ih)))
        | inr b ↦ rw (behind_run first n m b) (omega (arith, ih))
      ]
    ]

pub count-marked : (first n m : ℕ) (t : ℕ → Bool) → first + n ≤ m → is_free t first n ≡ true → count_below m (λ b. not (is_in_run first n b || t b)) + n ≡ count_below m (λ b. not (t b))
count-marked first n m t h free = let e : overlap first n m ≡ n = omega arith in rw e at (count-mark first n m t (is_free-at t first n free))

count-clear : (first n m : ℕ) (t : ℕ → Bool) → ((i : ℕ) → i < n → t (first + i) ≡ true) → count_below m (λ b. not (not (is_in_run first n b) && t b)) ≡ count_below m (λ b. not (t b)) + overlap first n m
unfolding count_below
count-clear first n zero t h = omega arith
count-clear first n (suc m) t h =
    let ih = count-clear first n m t h in
    elim (cases_lt m first) [
      | inl a ↦ rw (before_run first n m a) (omega (arith, ih))
      | inr a ↦ elim (cases_lt m (first + n)) [
        | inl b ↦ (let there : first + (m - first) ≡ m = omega arith in let full : t m ≡ true = rw there at (h (m - first) (omega arith)) in rw (in_run first n m a b, full) (omega (arith, ih)))
        | inr b ↦ rw (behind_run first n m b) (omega (arith, ih))
      ]
    ]

pub count-cleared : (first n m : ℕ) (t : ℕ → Bool) → first + n ≤ m → is_full t first n ≡ true → count_below m (λ b. not (not (is_in_run first n b) && t b)) ≡ count_below m (λ b. not (t b)) + n
count-cleared first n m t h full = let e : overlap first n m ≡ n = omega arith in rw e at (count-clear first n m t (is_full-at t first n full))

-- ---- part by part

-- the count of two parts, one behind the other
pub count_below-parts : (m n : ℕ) (test : ℕ → Bool) → count_below (m + n) test ≡ count_below m test + count_below n (λ i. test (m + i))
unfolding count_below
count_below-parts m zero test = let e : m + 0 ≡ m = omega arith in rw e (omega arith)
count_below-parts m (suc n) test = rw add-suc (omega (arith, count_below-parts m n test))

-- a test that no number passes counts none
pub count_below-nothing : (n : ℕ) (test : ℕ → Bool) → ((i : ℕ) → i < n → test i ≡ false) → count_below n test ≡ 0
unfolding count_below
count_below-nothing zero test h = refl
count_below-nothing (suc n) test h = rw (count_below-nothing n test (λ i k. h i (omega arith)), h n (omega arith)) refl

-- the numbers from `m` on add nothing where none of them passes
pub count_below-front : (m n : ℕ) (test : ℕ → Bool) → m ≤ n → ((i : ℕ) → m ≤ i → i < n → test i ≡ false) → count_below m test ≡ count_below n test
count_below-front m n test h none =
    let e : m + (n - m) ≡ n = omega arith in
    let parts = rw e at (count_below-parts m (n - m) test) in
    omega (arith, parts, count_below-nothing (n - m) (λ i. test (m + i)) (λ i k. none (m + i) (omega arith) (omega arith)))
