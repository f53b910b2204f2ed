-- The free blocks of a map, counted word by word.
use Rattle.std.proofs.Common.{◌≡◌, ◌<◌, ◌+◌, ◌-◌, ◌*◌, ◌/◌, ◌%◌, ◌^◌, ℕ, zero, suc, not, List, refl, sym, ap, ◌∙◌, w32, arith}
use Rattle.std.specs.Prelude.{◌==◌, if◌then◌else◌}
use Rattle.std.specs.Int.{bit_at, bit_not, count_zeros}
use Rattle.std.specs.Int.Count.{ones, ones_step}
use Rattle.std.proofs.Math.Nat.{pow-suc}
use Rattle.std.proofs.lemmas.Nat.Bits.{bit_at_not, bit_at-lt}
use Rattle.std.proofs.lemmas.Nat.{shr-shr, ones-le}
use Rattle.jfs_bits.specs.Bits.{is_taken, is_taken_in, count_below}
use Rattle.jfs_bits.specs.Field.{field_of}
use Rattle.jfs_bits.proofs.Counts.{count_below-same, count_below-parts}

-- a bit of half a number
half-bit : (y k : ℕ) → bit_at (y / 2) k ≡ bit_at y (k + 1)
half-bit y k = ap (λ (z : ℕ). z % 2) (shr-shr y 1 k ∙ ap (λ (z : ℕ). y / 2 ^ z) (omega arith))

-- a bit as a number
bit-number : (b : ℕ) → b < 2 → (if b == 1 then 1 else 0) ≡ b
bit-number zero h = refl
bit-number (suc zero) h = refl
bit-number (suc (suc b)) h = absurd (omega arith)

-- a number's set bits, the most significant one first
set-bits : (d y : ℕ) → y < 2 ^ d → ones y ≡ count_below d (λ i. bit_at y (d - 1 - i) == 1)
unfolding count_below
set-bits zero y h = omega (arith, ones-le 0 y h)
set-bits (suc d) y h =
    let rest = set-bits d (y / 2) (omega (arith, pow-suc 2 d)) in
    let same : count_below d (λ i. bit_at (y / 2) (d - 1 - i) == 1) ≡ count_below d (λ i. bit_at y (suc d - 1 - i) == 1) =
    count_below-same d (λ i. bit_at (y / 2) (d - 1 - i) == 1) (λ i. bit_at y (suc d - 1 - i) == 1) (λ i k. ap (λ (z : ℕ). z == 1) (half-bit y (d - 1 - i) ∙ ap (bit_at y) (omega arith))) in
    let end : suc d - 1 - d ≡ 0 = omega arith in
    let first : bit_at y 0 ≡ y % 2 = omega arith in
    let low : bit_at y (suc d - 1 - d) ≡ y % 2 = ap (bit_at y) end ∙ first in
    omega (arith, ones_step y, rest, same, ap (λ (z : ℕ). if z == 1 then 1 else 0) low ∙ bit-number (y % 2) (omega arith))

-- the free blocks of a word
pub word-free : (word : ℕ) → word < 2 ^ 32 → count_zeros w32 word ≡ count_below 32 (λ i. not (is_taken_in word i))
unfolding is_taken_in
word-free word small =
    set-bits 32 (bit_not w32 word) (omega arith)
    ∙ count_below-same 32 (λ i. bit_at (bit_not w32 word) (32 - 1 - i) == 1) (λ i. not (bit_at word (31 - i) == 1)) (λ i k.
    ap (λ (z : ℕ). z == 1) (bit_at_not w32 word (31 - i) small (omega arith)) ∙ one (bit_at word (31 - i)) (bit_at-lt word (31 - i)))
  where
    one : (b : ℕ) → b < 2 → (1 - b == 1) ≡ not (b == 1)
    one zero h = refl
    one (suc zero) h = refl
    one (suc (suc b)) h = absurd (omega arith)

-- a block of a word
block-free : (map : List ℕ) (k i : ℕ) → i < 32 → not (is_taken map (32 * k + i)) ≡ not (is_taken_in (field_of map (4 * k) 4) i)
unfolding is_taken
block-free map k i h =
    let place : (32 * k + i) / 32 ≡ k = omega arith in
    let rest : (32 * k + i) % 32 ≡ i = omega arith in
    rw (place, rest) refl

-- one word more
pub count-word : (map : List ℕ) (k : ℕ) → field_of map (4 * k) 4 < 2 ^ 32 → count_below (32 * (k + 1)) (λ b. not (is_taken map b)) ≡ count_below (32 * k) (λ b. not (is_taken map b)) + count_zeros w32 (field_of map (4 * k) 4)
count-word map k small =
    let next : 32 * (k + 1) ≡ 32 * k + 32 = omega arith in
    let word : count_below 32 (λ i. not (is_taken map (32 * k + i))) ≡ count_zeros w32 (field_of map (4 * k) 4) =
    count_below-same 32 (λ i. not (is_taken map (32 * k + i))) (λ i. not (is_taken_in (field_of map (4 * k) 4) i)) (block-free map k) ∙ sym (word-free (field_of map (4 * k) 4) small) in
    rw next (count_below-parts (32 * k) 32 (λ b. not (is_taken map b)) ∙ ap (λ (z : ℕ). count_below (32 * k) (λ b. not (is_taken map b)) + z) word)
