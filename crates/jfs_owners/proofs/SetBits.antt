-- The set bits of a set, counted word by word.
use Rattle.std.proofs.Common.{◌≡◌, ◌<◌, ◌≤◌, ◌+◌, ◌-◌, ◌*◌, ◌/◌, ◌%◌, ◌^◌, ℕ, zero, suc, Bool, true, false, not, ◌&&◌, List, inl, inr, refl, sym, ap, ◌∙◌, w32, arith}
use Rattle.std.specs.Prelude.{◌==◌, min, nat_le, nat_lt, bit_and, count_ones, if◌then◌else◌}
use Rattle.std.specs.Int.{bit_at, bit_not}
use Rattle.std.proofs.lemmas.Nat.{and_le_l}
use Rattle.std.proofs.lemmas.Nat.Bits.{bit_at_not, bit_at-lt}
use Rattle.std.proofs.lemmas.Bool.{cases_lt, le-leb, lt-ltb, le-ltb, and_from, and_right}
use Rattle.std.proofs.lemmas.Bool.Decides.{nat_tests}
use Rattle.jfs_bits.specs.Field.{field_of}
use Rattle.jfs_bits.specs.Bits.{is_taken, is_taken_in, count_below}
use Rattle.jfs_bits.proofs.Counts.{count_below-none, count_below-same, count_below-parts, count_below-front, count_below-most}
use Rattle.jfs_findings.specs.dmap.proofs.Counted.{word-free}
use Rattle.jfs_owners.specs.Counts.{OwnerSets, Counts}
use Rattle.jfs_owners.proofs.Marks.{both_taken}

-- a word's set bits are the clear ones of its complement
word_taken : (word : ℕ) → word < 2 ^ 32 → count_ones word ≡ count_below 32 (is_taken_in word)
unfolding is_taken_in
word_taken word small =
    let twice : word ≡ bit_not w32 (bit_not w32 word) = omega (arith, small) in
    ap count_ones twice
    ∙ word-free (bit_not w32 word) (omega arith)
    ∙ count_below-same 32 (λ i. not (bit_at (bit_not w32 word) (31 - i) == 1)) (λ i. bit_at word (31 - i) == 1) (λ i h.
    ap (λ (z : ℕ). not (z == 1)) (bit_at_not w32 word (31 - i) small (omega arith)) ∙ one (bit_at word (31 - i)) (bit_at-lt word (31 - i)))
  where
    one : (b : ℕ) → b < 2 → not (1 - b == 1) ≡ (b == 1)
    one zero h = refl
    one (suc zero) h = refl
    one (suc (suc b)) h = absurd (omega (arith, h))

inside : (to i : ℕ) → i < to → (nat_le 0 i && nat_lt i to) ≡ true
inside to i h = and_from (nat_le 0 i) (nat_lt i to) (le-leb 0 i (omega arith)) (lt-ltb i to h)

outside : (to i : ℕ) → to ≤ i → (nat_le 0 i && nat_lt i to) ≡ false
outside to i h = and_right (nat_le 0 i) (nat_lt i to) (le-ltb i to h)

-- the set bits among the first ones of a word, by their mask
word_front : (word mask to : ℕ) → word < 2 ^ 32 → to ≤ 32 → ((i : ℕ) → i < 32 → is_taken_in mask i ≡ (nat_le 0 i && nat_lt i to)) → count_ones (bit_and word mask) ≡ count_below to (is_taken_in word)
word_front word mask to small most is =
    word_taken (bit_and word mask) (omega (arith, small, and_le_l word mask))
    ∙ sym (count_below-front to 32 (is_taken_in (bit_and word mask)) most (λ i from below. both_taken word mask i ∙ ap (λ (t : Bool). t && is_taken_in word i) (is i below ∙ outside to i from)))
    ∙ count_below-same to (is_taken_in (bit_and word mask)) (is_taken_in word) (λ i h. both_taken word mask i ∙ ap (λ (t : Bool). t && is_taken_in word i) (is i (omega (arith, h, most)) ∙ inside to i h))

-- a block of a word
taken_in_word : (set : List ℕ) (w i : ℕ) → i < 32 → is_taken set (32 * w + i) ≡ is_taken_in (field_of set (4 * w) 4) i
unfolding is_taken
taken_in_word set w i h =
    let place : (32 * w + i) / 32 ≡ w = omega (arith, h) in
    let rest : (32 * w + i) % 32 ≡ i = omega (arith, h) in
    rw (place, rest) refl

-- ---- the first `n` bits, word by word

pub no_words : (set : List ℕ) (n : ℕ) → count_below (min (32 * 0) n) (is_taken set) ≡ 0
no_words set n = let none : min (32 * 0) n ≡ 0 = omega arith in ap (λ (k : ℕ). count_below k (is_taken set)) none ∙ count_below-none (is_taken set)

pub next_word : (set : List ℕ) (w n mask : ℕ) → field_of set (4 * w) 4 < 2 ^ 32 → 32 * w < n → ((i : ℕ) → i < 32 → is_taken_in mask i ≡ (nat_le 0 i && nat_lt i (min (n - 32 * w) 32)))
    → count_below (min (32 * (w + 1)) n) (is_taken set) ≡ count_below (min (32 * w) n) (is_taken set) + count_ones (bit_and (field_of set (4 * w) 4) mask)
next_word set w n mask small left is =
    let here : 32 * w ≡ min (32 * w) n = omega (arith, left) in
    let there : min (32 * (w + 1)) n ≡ 32 * w + min (n - 32 * w) 32 = omega (arith, left) in
    ap (λ (k : ℕ). count_below k (is_taken set)) there
    ∙ count_below-parts (32 * w) (min (n - 32 * w) 32) (is_taken set)
    ∙ ap (λ (z : ℕ). count_below (32 * w) (is_taken set) + z)
    (count_below-same (min (n - 32 * w) 32) (λ i. is_taken set (32 * w + i)) (is_taken_in (field_of set (4 * w) 4)) (λ i h. taken_in_word set w i (omega (arith, h)))
    ∙ sym (word_front (field_of set (4 * w) 4) mask (min (n - 32 * w) 32) small (omega arith) is))
    ∙ ap (λ (k : ℕ). count_below k (is_taken set) + count_ones (bit_and (field_of set (4 * w) 4) mask)) here

-- no more than there are bits
pub word_fits : (set : List ℕ) (w n mask : ℕ) → field_of set (4 * w) 4 < 2 ^ 32 → 32 * w < n → ((i : ℕ) → i < 32 → is_taken_in mask i ≡ (nat_le 0 i && nat_lt i (min (n - 32 * w) 32)))
    → count_below (min (32 * w) n) (is_taken set) + count_ones (bit_and (field_of set (4 * w) 4) mask) ≤ n
word_fits set w n mask small left is = omega (arith, next_word set w n mask small left is, count_below-most (min (32 * (w + 1)) n) (is_taken set))

pub all_words : (set : List ℕ) (w n : ℕ) → n ≤ 32 * w → count_below (min (32 * w) n) (is_taken set) ≡ count_below n (is_taken set)
all_words set w n end = let e : min (32 * w) n ≡ n = omega (arith, end) in ap (λ (k : ℕ). count_below k (is_taken set)) e

-- ---- bits that aren't set

-- each number passes a test or its opposite
count_not : (n : ℕ) (test : ℕ → Bool) → count_below n test + count_below n (λ b. not (test b)) ≡ n
unfolding count_below
count_not zero test = refl
count_not (suc n) test = elim (test n) as (λ t. (count_below n test + (if t then 1 else 0)) + (count_below n (λ b. not (test b)) + (if not t then 1 else 0)) ≡ suc n) [
  | true ↦ omega (arith, count_not n test)
  | false ↦ omega (arith, count_not n test)
]

-- a count that isn't 0
pub tested : (n : ℕ) → nat_lt 0 n ≡ not (n == 0)
tested n = elim (cases_lt 0 n) [
  | inl l ↦ (let a : nat_lt 0 n ≡ true = grind (arith, nat_tests) in let b : (n == 0) ≡ false = grind (arith, nat_tests) in a ∙ sym (ap not b))
  | inr l ↦ (let a : nat_lt 0 n ≡ false = grind (arith, nat_tests) in let b : (n == 0) ≡ true = grind (arith, nat_tests) in a ∙ sym (ap not b))
]

not_not : (b : Bool) → not (not b) ≡ b
not_not true = refl
not_not false = refl

pub free_left : (o v : OwnerSets) (set : List ℕ) (n taken : ℕ) → v ≡ o → set ≡ v.owned → n ≡ v.blocks → taken ≡ count_below n (is_taken set) → n - taken ≡ count_below o.blocks (λ b. not (is_taken o.owned b))
free_left o v set n taken e f g h =
    let size : n ≡ o.blocks = g ∙ ap (λ (x : OwnerSets). x.blocks) e in
    let bits : set ≡ o.owned = f ∙ ap (λ (x : OwnerSets). x.owned) e in
    let all : taken ≡ count_below o.blocks (is_taken o.owned) = h ∙ ap (λ (k : ℕ). count_below k (is_taken set)) size ∙ ap (λ (z : List ℕ). count_below o.blocks (is_taken z)) bits in
    omega (arith, size, all, count_not o.blocks (is_taken o.owned))

-- they are the blocks without an owner
pub free_told : (o : OwnerSets) (free : ℕ) → free ≡ count_below o.blocks (λ b. not (is_taken o.owned b)) → (count : ℕ → ℕ) → Counts o count → free ≡ count_below o.blocks (λ b. count b == 0)
free_told o free e count c = e ∙ count_below-same o.blocks (λ b. not (is_taken o.owned b)) (λ b. count b == 0) (λ b h. ap not (c.owned b h ∙ tested (count b)) ∙ not_not (count b == 0))
