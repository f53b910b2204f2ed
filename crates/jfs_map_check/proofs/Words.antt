-- Words of maps are the same where their bits are.
use Rattle.std.proofs.Common.{◌≡◌, ◌<◌, ◌+◌, ◌-◌, ◌*◌, ◌^◌, ◌↔◌, ℕ, inl, inr, IsTrue, List, sym, ap, subst, ◌∙◌, arith}
use Rattle.std.specs.Prelude.{◌==◌}
use Rattle.std.proofs.lemmas.Nat.Bits.{bit_at-lt, same_from_bits_below}
use Rattle.std.proofs.lemmas.Bool.{cases_lt, eq-eqb, eqb-true}
use Rattle.std.proofs.lemmas.Bool.Decides.{nat_tests}
use Rattle.jfs_bits.specs.Bits.{is_taken, is_taken_in}
use Rattle.jfs_bits.specs.Field.{field_of}
use Rattle.jfs_bits.proofs.SameMaps.{word-bit}

bit_same : (x y : ℕ) → x < 2 → y < 2 → (x == 1) ≡ (y == 1) → x ≡ y
bit_same x y small little same = grind (arith, nat_tests)

number_same : (x y : ℕ) → x < 2 ^ 32 → y < 2 ^ 32 → ((i : ℕ) → i < 32 → is_taken_in x i ≡ is_taken_in y i) → x ≡ y
unfolding is_taken_in
number_same x y small little same =
    same_from_bits_below 32 x y small little (λ j h.
    let mirrored : 31 - (31 - j) ≡ j = omega arith in
    bit_same _ _ (bit_at-lt x j) (bit_at-lt y j) (rw mirrored at (same (31 - j) (omega arith))))

-- words as they were read
pub word_decided : (one other : List ℕ) (w x y : ℕ) → x ≡ field_of one (4 * w) 4 → y ≡ field_of other (4 * w) 4 → x < 2 ^ 32 → y < 2 ^ 32 → IsTrue (x == y) ↔ ((i : ℕ) → i < 32 → is_taken one (32 * w + i) ≡ is_taken other (32 * w + i))
word_decided one other w x y mine theirs small little = (
  λ e i h. word-bit one w i h ∙ ap (λ (z : ℕ). is_taken_in z i) (sym mine ∙ eqb-true x y e ∙ theirs) ∙ sym (word-bit other w i h),
  λ same. eq-eqb x y (number_same x y small little (λ i h.
      ap (λ (z : ℕ). is_taken_in z i) mine ∙ sym (word-bit one w i h) ∙ same i h ∙ word-bit other w i h ∙ ap (λ (z : ℕ). is_taken_in z i) (sym theirs))),
)

pub words_more : (one other : List ℕ) (w : ℕ) → ((j : ℕ) → j < 32 * w → is_taken one j ≡ is_taken other j) → ((i : ℕ) → i < 32 → is_taken one (32 * w + i) ≡ is_taken other (32 * w + i))
    → (j : ℕ) → j < 32 * (w + 1) → is_taken one j ≡ is_taken other j
words_more one other w before here j h =
    elim (cases_lt j (32 * w)) [
      | inl l ↦ before j l
      | inr l ↦ (
          let whole : 32 * w + (j - 32 * w) ≡ j = omega (arith, l) in
          subst (λ (k : ℕ). is_taken one k ≡ is_taken other k) whole (here (j - 32 * w) (omega (arith, h, l))))
    ]
