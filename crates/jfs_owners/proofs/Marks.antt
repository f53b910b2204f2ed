-- Words of two sets of bits, one of which marks what is marked once more in the other.
use Rattle.std.proofs.Common.{◌≡◌, ◌≢◌, ◌<◌, ◌≤◌, ◌+◌, ◌-◌, ◌*◌, ◌/◌, ◌%◌, ◌^◌, ℕ, Bool, true, false, ◌&&◌, ◌||◌, inl, inr, List, length, refl, ap, ◌∙◌, arith}
use Rattle.std.specs.Prelude.{◌==◌, min, max, nat_le, nat_lt, bit_and, bit_or}
use Rattle.std.specs.Int.{bit_at}
use Rattle.std.proofs.lemmas.Nat.{and_le_l}
use Rattle.std.proofs.lemmas.Nat.Bits.{bit_at_and, bit_at-lt}
use Rattle.std.proofs.lemmas.Bool.{cases_eq, eq-eqb, ne_eqb, lt-ltb, le-ltb}
use Rattle.std.proofs.lemmas.Bool.Decides.{nat_tests}
use Rattle.byteorder.specs.Endian.{little_bytes}
use Rattle.jfs_bits.specs.Field.{field_of, put_bytes}
use Rattle.jfs_bits.specs.Bits.{is_taken, is_taken_in}
use Rattle.jfs_bits.proofs.Words.{is_taken-or}

pub both_taken : (word mask i : ℕ) → is_taken_in (bit_and word mask) i ≡ (is_taken_in mask i && is_taken_in word i)
unfolding is_taken_in
both_taken word mask i = ap (λ (z : ℕ). z == 1) (bit_at_and word mask (31 - i)) ∙ both (bit_at word (31 - i)) (bit_at mask (31 - i)) (bit_at-lt word (31 - i)) (bit_at-lt mask (31 - i))
  where
    both : (x y : ℕ) → x < 2 → y < 2 → (min x y == 1) ≡ (y == 1 && x == 1)
    both x y h k = grind (arith, nat_tests)

-- what of word `w` of one set is in the mask, marked in the other
pub marked_again : (owned shared : List ℕ) (w mask b : ℕ) → length shared % 4 ≡ 0 → 4 * w < length shared → field_of shared (4 * w) 4 < 2 ^ 32 → field_of owned (4 * w) 4 < 2 ^ 32
    → is_taken (put_bytes (4 * w) (little_bytes 4 (bit_or (field_of shared (4 * w) 4) (bit_and (field_of owned (4 * w) 4) mask))) shared) b
    ≡ (b / 32 == w && is_taken_in mask (b % 32) && is_taken owned b || is_taken shared b)
unfolding is_taken
marked_again owned shared w mask b whole within fits other =
    let word = field_of owned (4 * w) 4 in
    is_taken-or shared w (bit_and word mask) b whole within fits (omega (arith, other, and_le_l word mask))
    ∙ elim (cases_eq (b / 32) w) [
      | inl e ↦ rw (eq-eqb (b / 32) w e, both_taken word mask (b % 32), e) refl
      | inr n ↦ rw (ne_eqb (b / 32) w n) refl
    ]

-- ---- the words of a run one by one

-- the blocks of a run in one of its words, by the mask
in_word : (first end w mask b : ℕ) → first ≤ end → b / 32 ≡ w
    → ((i : ℕ) → i < 32 → is_taken_in mask i ≡ (nat_le (max first (32 * w) - 32 * w) i && nat_lt i (min end (32 * w + 32) - 32 * w)))
    → is_taken_in mask (b % 32) ≡ (nat_le first b && nat_lt b end)
in_word first end w mask b order e is = is (b % 32) (omega arith) ∙ same first end w (b / 32) (b % 32) b (omega arith) (omega arith) e order
  where
    same : (first end w q m b : ℕ) → m < 32 → b ≡ 32 * q + m → q ≡ w → first ≤ end → (nat_le (max first (32 * w) - 32 * w) m && nat_lt m (min end (32 * w + 32) - 32 * w)) ≡ (nat_le first b && nat_lt b end)
    same first end w q m b l e f order = grind (arith, nat_tests)

-- a block of another word stands before the next word exactly where it stands before this one
below : (w q m b : ℕ) → m < 32 → b ≡ 32 * q + m → q ≢ w → nat_lt b (32 * (w + 1)) ≡ nat_lt b (32 * w)
below w q m b l e n = grind (arith, nat_tests)

module _ (first end w mask b : ℕ) (order : first ≤ end)
    (is : (i : ℕ) → i < 32 → is_taken_in mask i ≡ (nat_le (max first (32 * w) - 32 * w) i && nat_lt i (min end (32 * w + 32) - 32 * w))) where
  -- one word more of the run is marked
  pub more_owned : (o : Bool) → (b / 32 == w && is_taken_in mask (b % 32) || ((nat_le first b && nat_lt b end) && nat_lt b (32 * w) || o)) ≡ ((nat_le first b && nat_lt b end) && nat_lt b (32 * (w + 1)) || o)
  more_owned o = elim (cases_eq (b / 32) w) [
    | inl e ↦ rw (eq-eqb (b / 32) w e, in_word first end w mask b order e is, le-ltb b (32 * w) (omega arith), lt-ltb b (32 * (w + 1)) (omega arith)) (here (nat_le first b && nat_lt b end) o)
    | inr n ↦ rw (ne_eqb (b / 32) w n, below w (b / 32) (b % 32) b (omega arith) (omega arith) n) refl
  ]
    where
      here : (r o : Bool) → (r || (r && false || o)) ≡ (r && true || o)
      here true o = refl
      here false o = refl

  -- and one word more of what was marked in it is marked again
  pub more_shared : (o s : Bool)
      → (b / 32 == w && is_taken_in mask (b % 32) && ((nat_le first b && nat_lt b end) && nat_lt b (32 * w) || o) || ((nat_le first b && nat_lt b end) && nat_lt b (32 * w) && o || s))
      ≡ ((nat_le first b && nat_lt b end) && nat_lt b (32 * (w + 1)) && o || s)
  more_shared o s = elim (cases_eq (b / 32) w) [
    | inl e ↦ rw (eq-eqb (b / 32) w e, in_word first end w mask b order e is, le-ltb b (32 * w) (omega arith), lt-ltb b (32 * (w + 1)) (omega arith)) (here (nat_le first b && nat_lt b end) o s)
    | inr n ↦ rw (ne_eqb (b / 32) w n, below w (b / 32) (b % 32) b (omega arith) (omega arith) n) refl
  ]
    where
      here : (r o s : Bool) → (r && (r && false || o) || (r && false && o || s)) ≡ (r && true && o || s)
      here true o s = refl
      here false o s = refl
