-- Words of a map of blocks, and single bits set and cleared in them.
use Rattle.std.proofs.Common.{◌≡◌, ◌≢◌, ◌<◌, ◌≤◌, ◌+◌, ◌-◌, ◌*◌, ◌/◌, ◌%◌, ◌^◌, ℕ, not, ◌&&◌, ◌||◌, ◌⊎◌, inl, inr, List, [], length, refl, sym, ap, ◌∙◌, arith}
use Rattle.std.specs.Prelude.{◌==◌, min, max, nat_le, nat_lt, bit_and, bit_or}
use Rattle.std.specs.Int.{bit_at, bit_not, w32}
use Rattle.std.proofs.lemmas.Nat.Bits.{bit_at_or, bit_at_and, bit_at_not, bit_at-lt, bit_at_mask_above, bit_at_mask_below, bit_at_mask_inside, shr_and_one}
use Rattle.std.proofs.lemmas.Bool.{cases_eq, cases_lt, eq-eqb, ne_eqb, le-leb, lt-leb, lt-ltb, le-ltb}
use Rattle.std.proofs.lemmas.Bool.Decides.{nat_tests}
use Rattle.std.proofs.lemmas.Nat.{or_lt, and_le_l}
use Rattle.std.proofs.lemmas.List.{append-nil}
use Rattle.byteorder.specs.Endian.{little_bytes}
use Rattle.jfs_bits.specs.Field.{field_of, put_bytes, range_of}
use Rattle.jfs_bits.specs.Bits.{is_taken, is_taken_in}
use Rattle.jfs_bits.proofs.Ranges.{range_of-put_same, range_of-put_other, field_of-range, field_of-number}

-- a number is read where it was put
pub field_of-put_same : (at width x : ℕ) (bytes : List ℕ) → length (little_bytes width x) ≡ width → at + width ≤ length bytes → x < 256 ^ width → field_of (put_bytes at (little_bytes width x) bytes) at width ≡ x
field_of-put_same at width x bytes size h fits =
    let range : range_of (put_bytes at (little_bytes width x) bytes) at width ≡ little_bytes width x = rw size at (range_of-put_same at (little_bytes width x) bytes (omega arith)) in
    field_of-range (put_bytes at (little_bytes width x) bytes) at width ∙ ap (λ (z : List ℕ). field_of z 0 width) range ∙ rw append-nil at (field_of-number width x [] fits)

-- and is as it was elsewhere
pub field_of-put_other : (at width place : ℕ) (new bytes : List ℕ) → place + length new ≤ length bytes → (at + width ≤ place) ⊎ (place + length new ≤ at) → field_of (put_bytes place new bytes) at width ≡ field_of bytes at width
field_of-put_other at width place new bytes h side =
    field_of-range (put_bytes place new bytes) at width ∙ ap (λ (z : List ℕ). field_of z 0 width) (range_of-put_other at width place new bytes h side) ∙ sym (field_of-range bytes at width)

-- word `w` replaced
pub is_taken-put_same : (map : List ℕ) (w b x : ℕ) → length map % 4 ≡ 0 → 4 * w < length map → x < 2 ^ 32 → b / 32 ≡ w → is_taken (put_bytes (4 * w) (little_bytes 4 x) map) b ≡ is_taken_in x (b % 32)
unfolding is_taken
is_taken-put_same map w b x whole within fits same =
    rw same (ap (λ (z : ℕ). is_taken_in z (b % 32)) (field_of-put_same (4 * w) 4 x map refl (omega arith) fits))

pub is_taken-put_other : (map : List ℕ) (w b x : ℕ) → length map % 4 ≡ 0 → 4 * w < length map → b / 32 ≢ w → is_taken (put_bytes (4 * w) (little_bytes 4 x) map) b ≡ is_taken map b
unfolding is_taken
is_taken-put_other map w b x whole within other =
    let side : (4 * (b / 32) + 4 ≤ 4 * w) ⊎ (4 * w + 4 ≤ 4 * (b / 32)) = apart (b / 32) w other in
    ap (λ (z : ℕ). is_taken_in z (b % 32)) (field_of-put_other (4 * (b / 32)) 4 (4 * w) (little_bytes 4 x) map (omega arith) side)
  where
    apart : (m n : ℕ) → m ≢ n → (4 * m + 4 ≤ 4 * n) ⊎ (4 * n + 4 ≤ 4 * m)
    apart m n h = elim (cases_lt m n) [ inl k ↦ inl (omega arith) | inr k ↦ inr (omega arith) ]

-- blocks of a word by the bits of a mask
pub is_taken_in-or : (word mask b : ℕ) → is_taken_in (bit_or word mask) b ≡ (is_taken_in mask b || is_taken_in word b)
unfolding is_taken_in
is_taken_in-or word mask b = ap (λ (z : ℕ). z == 1) (bit_at_or word mask (31 - b)) ∙ either (bit_at word (31 - b)) (bit_at mask (31 - b)) (bit_at-lt word (31 - b)) (bit_at-lt mask (31 - b))
  where
    either : (x y : ℕ) → x < 2 → y < 2 → (max x y == 1) ≡ (y == 1 || x == 1)
    either x y h k = grind (arith, nat_tests)

pub is_taken_in-but : (word mask b : ℕ) → mask < 2 ^ 32 → is_taken_in (bit_and word (bit_not w32 mask)) b ≡ (not (is_taken_in mask b) && is_taken_in word b)
unfolding is_taken_in
is_taken_in-but word mask b fits =
    ap (λ (z : ℕ). z == 1) (bit_at_and word (bit_not w32 mask) (31 - b) ∙ ap (λ (z : ℕ). min (bit_at word (31 - b)) z) (bit_at_not w32 mask (31 - b) fits (omega arith)))
    ∙ both (bit_at word (31 - b)) (bit_at mask (31 - b)) (bit_at-lt word (31 - b)) (bit_at-lt mask (31 - b))
  where
    both : (x y : ℕ) → x < 2 → y < 2 → (min x (1 - y) == 1) ≡ (not (y == 1) && x == 1)
    both x y h k = grind (arith, nat_tests)

-- blocks of a word of a map by the bits of a mask
pub is_taken-or : (map : List ℕ) (w mask b : ℕ) → length map % 4 ≡ 0 → 4 * w < length map → field_of map (4 * w) 4 < 2 ^ 32 → mask < 2 ^ 32 → is_taken (put_bytes (4 * w) (little_bytes 4 (bit_or (field_of map (4 * w) 4) mask)) map) b ≡ (b / 32 == w && is_taken_in mask (b % 32) || is_taken map b)
unfolding is_taken
is_taken-or map w mask b whole within fits small =
    let word = field_of map (4 * w) 4 in
    elim (cases_eq (b / 32) w) [
      | inl e ↦ is_taken-put_same map w b (bit_or word mask) whole within (or_lt 32 word mask fits small) e
          ∙ is_taken_in-or word mask (b % 32)
          ∙ rw (eq-eqb (b / 32) w e, e) refl
      | inr n ↦ is_taken-put_other map w b (bit_or word mask) whole within n ∙ rw (ne_eqb (b / 32) w n) refl
    ]

pub is_taken-but : (map : List ℕ) (w mask b : ℕ) → length map % 4 ≡ 0 → 4 * w < length map → field_of map (4 * w) 4 < 2 ^ 32 → mask < 2 ^ 32 → is_taken (put_bytes (4 * w) (little_bytes 4 (bit_and (field_of map (4 * w) 4) (bit_not w32 mask))) map) b ≡ (not (b / 32 == w && is_taken_in mask (b % 32)) && is_taken map b)
unfolding is_taken
is_taken-but map w mask b whole within fits small =
    let word = field_of map (4 * w) 4 in
    elim (cases_eq (b / 32) w) [
      | inl e ↦ is_taken-put_same map w b (bit_and word (bit_not w32 mask)) whole within (omega (arith, and_le_l word (bit_not w32 mask))) e
          ∙ is_taken_in-but word mask (b % 32) small
          ∙ rw (eq-eqb (b / 32) w e, e) refl
      | inr n ↦ is_taken-put_other map w b (bit_and word (bit_not w32 mask)) whole within n ∙ rw (ne_eqb (b / 32) w n) refl
    ]

-- the bits of the blocks from `from` to before `to` of a word
pub mask-bits : (from to i : ℕ) → from ≤ to → to ≤ 32 → i < 32 → is_taken_in (2 ^ (32 - from) - 2 ^ (32 - to)) i ≡ (nat_le from i && nat_lt i to)
unfolding is_taken_in
mask-bits from to i order most h =
    elim (cases_lt i from) [
      | inl a ↦ rw (bit_at_mask_above (32 - to) (32 - from) (31 - i) (omega arith), lt-leb from i a) refl
      | inr a ↦ elim (cases_lt i to) [
        | inl b ↦ rw (bit_at_mask_inside (32 - to) (32 - from) (31 - i) (omega arith) (omega arith), le-leb from i a, lt-ltb i to b) refl
        | inr b ↦ rw (bit_at_mask_below (32 - to) (32 - from) (31 - i) (omega arith), le-leb from i a, le-ltb i to b) refl
      ]
    ]

-- the test of a bit
pub is_taken_in-test : (word i : ℕ) → (bit_and (word / 2 ^ (31 - i)) 1 == 1) ≡ is_taken_in word i
unfolding is_taken_in
is_taken_in-test word i = ap (λ (z : ℕ). z == 1) (shr_and_one word (31 - i))
