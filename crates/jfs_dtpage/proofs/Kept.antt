-- Fields that a write leaves.
use Rattle.std.proofs.Common.{◌≡◌, ◌≤◌, ◌+◌, ◌*◌, ℕ, List, length, inl, inr, sym, ap, ◌∙◌, subst, arith}
use Rattle.std.proofs.lemmas.Bool.{cases_lt}
use Rattle.jfs_bits.specs.Field.{field_of, put_bytes}
use Rattle.jfs_bits.proofs.Words.{field_of-put_other}
use Rattle.jfs_dtpage.specs.Slots.{Kept, SameSlot}

pub kept_put : (at size : ℕ) (piece old new : List ℕ) → length piece ≡ size → at + size ≤ length old → new ≡ put_bytes at piece old → Kept at size old new
kept_put at size piece old new n h e from width side = ap (λ (b : List ℕ). field_of b from width) e ∙ field_of-put_other from width at piece old (omega (arith, n, h)) (elim side [ inl a ↦ inl a | inr a ↦ inr (omega (arith, n, a)) ])

-- a part of a greater range
pub kept_wider : (at size low wide : ℕ) (old new : List ℕ) → low ≤ at → at + size ≤ low + wide → Kept at size old new → Kept low wide old new
kept_wider at size low wide old new l h k from width side = k from width (elim side [ inl a ↦ inl (omega (arith, a, l)) | inr a ↦ inr (omega (arith, a, h)) ])

-- one write after another
pub kept_both : (at size : ℕ) (old mid new : List ℕ) → Kept at size old mid → Kept at size mid new → Kept at size old new
kept_both at size old mid new a b from width side = b from width side ∙ a from width side

pub same_both : (slot : ℕ) (old mid new : List ℕ) → SameSlot old mid slot → SameSlot mid new slot → SameSlot old new slot
same_both slot old mid new a b from width h = b from width h ∙ a from width h

-- a write within one slot leaves the others
pub kept_slot : (at size slot other : ℕ) (old new : List ℕ) → 32 * slot ≤ at → at + size ≤ 32 * slot + 32 → (other ≡ slot → ⊥) → Kept at size old new → SameSlot old new other
kept_slot at size slot other old new l h differ k from width w = k (32 * other + from) width (elim (cases_lt other slot) [
  | inl a ↦ inl (omega (arith, a, l, w))
  | inr a ↦ inr (omega (arith, a, h, differ))
])

-- a field of a slot that is as it was
pub same_field : (old new : List ℕ) (slot from width place : ℕ) → SameSlot old new slot → place ≡ 32 * slot + from → from + width ≤ 32 → field_of new place width ≡ field_of old place width
same_field old new slot from width place s e h = subst (λ (p : ℕ). field_of new p width ≡ field_of old p width) (sym e) (s from width h)
