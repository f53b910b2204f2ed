-- Each part of bytes that were made part by part; a set as a map.
use Rattle.std.proofs.Common.{◌≡◌, ◌<◌, ◌≤◌, ◌+◌, ◌-◌, ◌*◌, ◌/◌, ◌%◌, ◌^◌, ℕ, zero, suc, Bool, true, false, inl, inr, List, ◌++◌, length, take, drop, refl, sym, ap, ◌∙◌, arith}
use Rattle.std.specs.Prelude.{◌==◌, if◌then◌else◌}
use Rattle.std.specs.Int.{bit_at}
use Rattle.std.proofs.Math.Nat.{pow-suc}
use Rattle.std.proofs.Math.Seq.{take-length}
use Rattle.std.proofs.lemmas.Bool.{cases_eq}
use Rattle.std.proofs.lemmas.List.{drop-append-le, drop_at, take-append-le, length-append, length-drop}
use Rattle.std.proofs.lemmas.Nat.{column_fits}
use Rattle.std.proofs.lemmas.Nat.Bits.{bit_at-suc}
use Rattle.byteorder.specs.Endian.{little_bytes}
use Rattle.byteorder.specs.Numbers.{length-bytes_low_first}
use Rattle.jfs_bits.specs.Bits.{is_taken, is_taken_in}
use Rattle.jfs_bits.specs.Field.{AreBytes, field_of, range_of}
use Rattle.jfs_bits.proofs.Parts.{number-read}
use Rattle.jfs_map_bytes.specs.Parts.{joined_below, number_of, set_bytes}
use Rattle.jfs_map_bytes.proofs.Bytes.{bytes-none, bytes-append, bytes-little}

-- ---- parts

abbrev pub HaveSize : ℕ → (ℕ → List ℕ) → Type 0
HaveSize width part = (k : ℕ) → length (part k) ≡ width

pub length-joined : (n width : ℕ) (part : ℕ → List ℕ) → HaveSize width part → length (joined_below n part) ≡ width * n
unfolding joined_below
length-joined zero width part sizes = omega arith
length-joined (suc n) width part sizes = omega (arith, length-append (joined_below n part) (part n), length-joined n width part sizes, sizes n)

in_front : (xs ys : List ℕ) (at width : ℕ) → at + width ≤ length xs → range_of (xs ++ ys) at width ≡ range_of xs at width
unfolding range_of
in_front xs ys at width h = ap (λ (z : List ℕ). take width z) (drop-append-le at xs ys (omega arith)) ∙ take-append-le width (drop at xs) ys (omega (arith, length-drop at xs))

behind : (xs ys : List ℕ) (at width : ℕ) → at ≡ length xs → length ys ≡ width → range_of (xs ++ ys) at width ≡ ys
unfolding range_of
behind xs ys at width e size = ap (λ (z : List ℕ). take width z) (drop_at xs ys at (sym e)) ∙ ap (λ (n : ℕ). take n ys) (sym size) ∙ take-length ys

pub part-joined : (n width k : ℕ) (part : ℕ → List ℕ) → HaveSize width part → k < n → range_of (joined_below n part) (width * k) width ≡ part k
unfolding joined_below
part-joined zero width k part sizes h = absurd (omega arith)
part-joined (suc n) width k part sizes h =
    let size = length-joined n width part sizes in
    elim (cases_eq k n) [
      | inl e ↦ rw e (behind (joined_below n part) (part n) (width * n) width (sym size) (sizes n))
      | inr other ↦ in_front (joined_below n part) (part n) (width * k) width (within width k n size (omega arith)) ∙ part-joined n width k part sizes (omega arith)
    ]
  where
    within : (width k n : ℕ) {size : ℕ} → size ≡ width * n → k < n → width * k + width ≤ size
    within width k n e h = omega (arith, e, column_fits width k width n h (omega arith))

pub bytes-joined : (n : ℕ) (part : ℕ → List ℕ) → ((k : ℕ) → AreBytes (part k)) → AreBytes (joined_below n part)
unfolding joined_below
bytes-joined zero part each = bytes-none
bytes-joined (suc n) part each = bytes-append (joined_below n part) (part n) (bytes-joined n part each) (each n)

-- ---- the bits of a number

bit-most : (b : Bool) → (if b then 1 else 0) < 2
bit-most true = omega arith
bit-most false = omega arith

pub number-below : (n : ℕ) (bit : ℕ → Bool) → number_of n bit < 2 ^ n
unfolding number_of
number-below zero bit = omega arith
number-below (suc n) bit = omega (arith, number-below n bit, pow-suc 2 n, bit-most (bit n))

bit-is : (b : Bool) → ((if b then 1 else 0) == 1) ≡ b
bit-is true = refl
bit-is false = refl

pub number-bit : (n : ℕ) (bit : ℕ → Bool) (i : ℕ) → i < n → (bit_at (number_of n bit) (n - 1 - i) == 1) ≡ bit i
unfolding number_of
number-bit zero bit i h = absurd (omega arith)
number-bit (suc n) bit i h =
    let y : ℕ = number_of n bit in
    let b : ℕ = if bit n then 1 else 0 in
    elim (cases_eq i n) [
      | inl e ↦
          let place : suc n - 1 - i ≡ 0 = omega arith in
          let low : bit_at (2 * y + b) 0 ≡ b = omega (arith, bit-most (bit n)) in
          rw place (ap (λ (z : ℕ). z == 1) low ∙ bit-is (bit n) ∙ ap bit (sym e))
      | inr other ↦
          let place : suc n - 1 - i ≡ suc (n - 1 - i) = omega arith in
          let half : (2 * y + b) / 2 ≡ y = omega (arith, bit-most (bit n)) in
          rw place (ap (λ (z : ℕ). z == 1) (bit_at-suc (2 * y + b) (n - 1 - i) ∙ ap (λ (z : ℕ). bit_at z (n - 1 - i)) half) ∙ number-bit n bit i (omega arith))
    ]

-- ---- a set

word_size : (taken : ℕ → Bool) → HaveSize 4 (λ w. little_bytes 4 (number_of 32 (λ i. taken (32 * w + i))))
word_size taken w = length-bytes_low_first 0 4 (number_of 32 (λ i. taken (32 * w + i)))

pub length-set : (words : ℕ) (taken : ℕ → Bool) → length (set_bytes words taken) ≡ 4 * words
unfolding set_bytes
length-set words taken = length-joined words 4 (λ w. little_bytes 4 (number_of 32 (λ i. taken (32 * w + i)))) (word_size taken)

pub bytes-set : (words : ℕ) (taken : ℕ → Bool) → AreBytes (set_bytes words taken)
unfolding set_bytes
bytes-set words taken = bytes-joined words (λ w. little_bytes 4 (number_of 32 (λ i. taken (32 * w + i)))) (λ w. bytes-little 4 (number_of 32 (λ i. taken (32 * w + i))))

set-word : (words w : ℕ) (taken : ℕ → Bool) → w < words → field_of (set_bytes words taken) (4 * w) 4 ≡ number_of 32 (λ i. taken (32 * w + i))
unfolding set_bytes
set-word words w taken h =
    number-read (set_bytes words taken) (4 * w) 4 (number_of 32 (λ i. taken (32 * w + i)))
    (part-joined words 4 w (λ w. little_bytes 4 (number_of 32 (λ i. taken (32 * w + i)))) (word_size taken) h) (number-below 32 (λ i. taken (32 * w + i)))

pub set-bit : (words b : ℕ) (taken : ℕ → Bool) → b < 32 * words → is_taken (set_bytes words taken) b ≡ taken b
unfolding is_taken is_taken_in
set-bit words b taken h =
    let here : 32 * (b / 32) + b % 32 ≡ b = omega arith in
    ap (λ (z : ℕ). bit_at z (31 - b % 32) == 1) (set-word words (b / 32) taken (omega arith))
    ∙ number-bit 32 (λ i. taken (32 * (b / 32) + i)) (b % 32) (omega arith)
    ∙ ap taken here
