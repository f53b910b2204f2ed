-- Maps of bits as they are made, and words of them.
use Rattle.std.proofs.Common.{◌≡◌, ◌+◌, ◌-◌, ◌*◌, ◌/◌, ◌%◌, ◌^◌, ℕ, zero, suc, Bool, true, false, not, ◌&&◌, List, refl, sym, ap, ◌∙◌, get_or, slice_index, length, take, arith}
use Rattle.std.proofs.Math.Seq.{take-length}
use Rattle.std.specs.Prelude.{nat_lt, replicate, Option, is_some}
use Rattle.std.proofs.lemmas.Bool.{le-ltb}
use Rattle.std.proofs.lemmas.Nat.Bits.{bit_at-zero}
use Rattle.byteorder.specs.Endian.{little_from}
use Rattle.jfs_bits.specs.Field.{field_of, range_of}
use Rattle.jfs_bits.specs.Bits.{is_taken, is_taken_in, any_below, is_free, all_below, has_free_run, IsLowestFree}
use Rattle.jfs_bits.proofs.Buds.{lowest-has, any_below-same}
use Rattle.jfs_bits.proofs.SameMaps.{word-bit}

zero-at : (n at : ℕ) → get_or (replicate {A = ℕ} n 0) at 0 ≡ 0
zero-at zero at = refl
zero-at (suc n) zero = refl
zero-at (suc n) (suc at) = zero-at n at

zeros-number : (n at width : ℕ) → little_from at width (replicate n 0) ≡ 0
zeros-number n at zero = refl
zeros-number n at (suc width) =
    let first : slice_index (replicate {A = ℕ} n 0) at ≡ 0 = zero-at n at in
    omega (arith, first, zeros-number n (suc at) width)

pub zeros-clear : (n b : ℕ) → is_taken (replicate n 0) b ≡ false
unfolding is_taken is_taken_in field_of
zeros-clear n b = rw (zeros-number n (4 * (b / 32)) 4, bit_at-zero (31 - b % 32)) refl

-- one block is a run
pub single : (taken : ℕ → Bool) (j : ℕ) → is_free taken (j * 2 ^ 0) (2 ^ 0) ≡ not (taken j)
unfolding is_free all_below
single taken j = let e : j * 1 + 0 ≡ j = omega arith in rw e refl

pub clear-bit : (word : ℕ) (o : Option ℕ) → IsLowestFree (is_taken_in word) (2 ^ (5 - 0)) 0 o → any_below 32 (λ i. not (is_taken_in word i)) ≡ is_some o
unfolding has_free_run
clear-bit word o h = any_below-same 32 (λ i. not (is_taken_in word i)) (λ j. is_free (is_taken_in word) (j * 2 ^ 0) (2 ^ 0)) (λ j k. sym (single (is_taken_in word) j)) ∙ lowest-has word 0 o h

pub and_true : (a b : Bool) → a ≡ true → (a && b) ≡ b
and_true true b e = refl
and_true false b e = absurd cc

pub and_false : (a b : Bool) → a ≡ false → (a && b) ≡ false
and_false true b e = absurd cc
and_false false b e = refl

-- a word of a map has a clear bit where one of its inodes is free
pub word-free : (map : List ℕ) (word e : ℕ) → word ≡ field_of map (4 * e) 4 → any_below 32 (λ i. not (is_taken_in word i)) ≡ any_below 32 (λ i. not (is_taken map (32 * e + i)))
word-free map word e is = any_below-same 32 (λ i. not (is_taken_in word i)) (λ i. not (is_taken map (32 * e + i))) (λ i h. ap not (ap (λ (z : ℕ). is_taken_in z i) is ∙ sym (word-bit map e i h)))

-- an empty map has no number below 0
pub none-marked : (n b : ℕ) (f : Bool) → is_taken (replicate n 0) b ≡ (nat_lt b 0 && f)
none-marked n b f = zeros-clear n b ∙ sym (and_false (nat_lt b 0) f (le-ltb b 0 (omega arith)))

pub whole-range : (bytes : List ℕ) (size : ℕ) → length bytes ≡ size → range_of bytes 0 size ≡ bytes
unfolding range_of
whole-range bytes size e = ap (λ (n : ℕ). take n bytes) (sym e) ∙ take-length bytes
