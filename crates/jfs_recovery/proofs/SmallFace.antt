-- The small face keeps the laws.
use Rattle.std.proofs.Common.{◌≡◌, ◌<◌, ◌⊎◌, ◌==◌, ℕ, true, if◌then◌else◌, List, length, get_or, Some, refl, sym, ap, ◌∙◌, inl, inr, arith}
use Rattle.std.proofs.lemmas.Bool.{cond-true}
use Rattle.std.proofs.lemmas.List.{length-replicate}
use Rattle.jfs_ranges.specs.declared.edit.Edit.{Edit}
use Rattle.jfs_core.proofs.Bytes.{length-apply_tx}
use Rattle.jfs_kinds.specs.Owner.{is_logged}
use Rattle.jfs_recovery.specs.Face.{IsFace, Gives, Passes, Pages}
use Rattle.jfs_kinds.specs.Owner.Owner.{Area, Inodes}
use Rattle.jfs_recovery.specs.Lines.{rest_of}
use Rattle.jfs_recovery.specs.Small.{small_volume, small_owner, by_number}
use Rattle.jfs_recovery.proofs.Lines.{Given, Passed, given_or_passed}

bytes_small : (tx : List Edit) (p i : ℕ) → i < 4096 → Gives small_volume tx p i ⊎ Passes small_volume tx p i
bytes_small tx p i within = at (given_or_passed tx p i within)
  where
    at : Given tx p i ⊎ Passed tx p i → Gives small_volume tx p i ⊎ Passes small_volume tx p i
    at (inl given) = inl given
    at (inr passed) = inr (record { redo = passed.redo; lines = passed.lines })

area_small : (s : Pages) (p : ℕ) → (p == 0) ≡ true → is_logged (small_owner s p) ≡ true
area_small s p e = ap is_logged (cond-true (p == 0) (Some Area) (if p == 1 then Some Inodes else by_number (get_or (s 1) p 0)) e)

pub small_laws : IsFace small_volume
small_laws = record {
  size_lines = λ tx p a h. length-apply_tx p tx a ∙ h;
  size_redoes = λ tx p a h. length-apply_tx p (rest_of p tx) a ∙ h;
  bytes = bytes_small;
  size_map = λ s items p a h. ap (λ (x : List ℕ). length x) h.0 ∙ length-replicate {A = ℕ} 4096 0;
  at_home = λ i. refl;
  in_page = λ i. omega arith;
  in_cell = λ i a b h. refl;
  read_back = λ s items i a h. sym (h.1 i);
  sets_or_passes = λ tx i. inl (λ x y. refl);
  agree = λ s t items items' same has p a b map x y. x.0 ∙ sym y.0;
  inodes = λ s items same q has. absurd (cc);
  area = area_small;
  fixed = λ s p e. absurd (cc);
}
