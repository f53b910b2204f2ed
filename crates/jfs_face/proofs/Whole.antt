-- A volume keeps all that the core asks for.
use Rattle.std.proofs.Common.{◌⊎◌, ◌<◌, ℕ, Bool, List, refl, ◌∙◌, inl, inr}
use Rattle.jfs_ranges.specs.declared.edit.Edit.{Edit}
use Rattle.jfs_steps.specs.objects.specs.Readers.{Readers}
use Rattle.jfs_recovery.specs.crash_core.proofs.Bytes.{length-apply_tx}
use Rattle.jfs_recovery.specs.Face.{IsFace, Pages, Gives, Passes}
use Rattle.jfs_recovery.specs.Lines.{rest_of, ReadsEdits}
use Rattle.jfs_recovery.proofs.Lines.{Given, Passed, given_or_passed}
use Rattle.jfs_face.specs.Places.{Places, AreInAreas}
use Rattle.jfs_face.specs.Volume.{face_of}
use Rattle.jfs_face.specs.Laws.{FaceLaw}
use Rattle.jfs_face.proofs.Cells.{item_in_cell, cell_within}
use Rattle.jfs_face.proofs.Passing.{sets_or_leaves}
use Rattle.jfs_face.proofs.Reading.{at_home, read_back}
use Rattle.jfs_face.proofs.Agreed.{pages_agree}
use Rattle.jfs_face.proofs.Owned.{map_matters, fixed_matters, inodes_matter}

bytes_of : (r : Readers) (pl : Places) (changes : Pages → List Edit → ℕ → Bool) (tx : List Edit) (p i : ℕ) → i < 4096 → Gives (face_of r pl changes) tx p i ⊎ Passes (face_of r pl changes) tx p i
bytes_of r pl changes tx p i within = at (given_or_passed tx p i within)
  where
    at : Given tx p i ⊎ Passed tx p i → Gives (face_of r pl changes) tx p i ⊎ Passes (face_of r pl changes) tx p i
    at (inl given) = inl given
    at (inr passed) = inr (record { redo = passed.redo; lines = passed.lines })

pub is_face : (r : Readers) (pl : Places) (changes : Pages → List Edit → ℕ → Bool) → AreInAreas pl → IsFace (face_of r pl changes)
is_face r pl changes areas = record {
  size_lines = λ tx p a h. length-apply_tx p tx a ∙ h;
  size_redoes = λ tx p a h. length-apply_tx p (rest_of p tx) a ∙ h;
  bytes = bytes_of r pl changes;
  size_map = λ s items p a h. h.size;
  at_home = at_home pl;
  in_page = cell_within;
  in_cell = item_in_cell pl;
  read_back = read_back pl;
  sets_or_passes = sets_or_leaves;
  agree = λ s t items others same pages p a b is_map x y. pages_agree pl s t items others same pages p a b is_map x y;
  inodes = inodes_matter r pl;
  area = map_matters r pl areas;
  fixed = fixed_matters r pl;
}

pub reads_edits : (r : Readers) (pl : Places) (changes : Pages → List Edit → ℕ → Bool) → ReadsEdits (face_of r pl changes)
reads_edits r pl changes = record { lines = λ tx p a. refl; closes = λ tx p. refl; redoes = λ tx p a. refl }

pub volumes_are_faces : FaceLaw
volumes_are_faces r pl changes areas = (is_face r pl changes areas, reads_edits r pl changes)
