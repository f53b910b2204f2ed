-- An extent that is put into the lowest place without one.
use Rattle.std.proofs.Common.{◌≡◌, ◌<◌, refl, sym, ap, ap₂, ◌∙◌, inl, inr, ℕ, ◌*◌, ◌/◌, Bool, true, false, not, ◌&&◌, length, arith}
use Rattle.std.proofs.lemmas.Bool.{cases_lt}
use Rattle.std.proofs.lemmas.List.{get_or_past, get_or-set_same, get_or-set_other}
use Rattle.std.proofs.lemmas.List.FromFn.{get_or-map-range_with_len, length-map-range_with_len}
use Rattle.jfs_bits.specs.Bits.{is_in_run}
use Rattle.jfs_bits.specs.declared.descriptor.Pxd.{Pxd}
use Rattle.jfs_bits.proofs.Counts.{in_run, before_run}
use Rattle.jfs_iag.specs.Iag.{no_run}
use Rattle.jfs_iag.specs.Canonical.{is_there}
use Rattle.jfs_way.specs.imap.specs.Inodes.{Inodes, extent_at, is_used, is_free, with_extent, IsPick}
use Rattle.jfs_way.specs.imap.specs.declared.inode_map.Pick.TheVariants.{NeedsExtent}
use Rattle.jfs_room.specs.Laws.{AddedLaw}

module _ (m : Inodes) (place : ℕ) (at : Pxd) (pick : IsPick m (NeedsExtent place)) (there : is_there at ≡ true) where
  abbrev after : Inodes
  after = with_extent place at m

  abbrev used_after : ℕ → Bool
  used_after i = not (is_in_run (32 * place) 32 i) && is_used m i

  used_is : (i : ℕ) → is_used after i ≡ used_after i
  used_is i = elim (cases_lt i (length m.taken)) [
    | inl l ↦ get_or-map-range_with_len used_after 0 (length m.taken) i i false l (omega arith)
    | inr l ↦ get_or_past after.taken i false (let e = length-map-range_with_len used_after 0 (length m.taken) in omega (arith, e, l))
        ∙ sym (ap (λ (x : Bool). not (is_in_run (32 * place) 32 i) && x) (get_or_past m.taken i false l) ∙ and_no (not (is_in_run (32 * place) 32 i)))
  ]
    where
      and_no : (x : Bool) → (x && false) ≡ false
      and_no true = refl
      and_no false = refl

  -- the first of its numbers is free
  first_free : is_free after (32 * place) ≡ true
  first_free = ap₂ (λ (x y : Bool). x && not y) is_put (used_is (32 * place) ∙ ap (λ (x : Bool). not x && is_used m (32 * place)) (in_run (32 * place) 32 (32 * place) (omega arith) (omega arith)))
    where
      is_put : is_there (extent_at after (32 * place / 32)) ≡ true
      is_put = let e : 32 * place / 32 ≡ place = omega arith in ap (λ (k : ℕ). is_there (extent_at after k)) e ∙ ap is_there (get_or-set_same m.extents place at no_run pick.1.0) ∙ there

  -- and no lower one, as before
  none_lower : (i : ℕ) → i < 32 * place → is_free after i ≡ false
  none_lower i l = ap₂ (λ (x : Pxd) (y : Bool). is_there x && not y)
      (get_or-set_other m.extents place (i / 32) at no_run (λ e. absurd (omega (arith, e, l))))
      (used_is i ∙ ap (λ (x : Bool). not x && is_used m i) (before_run (32 * place) 32 i l)) ∙ pick.0 i

pub added_law : AddedLaw
added_law m place at pick there = (first_free m place at pick there, none_lower m place at pick there)
