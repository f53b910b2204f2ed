-- Each volume keeps what the core asks for.
use Rattle.std.specs.Prelude.{ℕ, Bool, List}
use Rattle.jfs_ranges.specs.declared.edit.Edit.{Edit}
use Rattle.jfs_steps.specs.objects.specs.Readers.{Readers}
use Rattle.jfs_recovery.specs.Face.{IsFace, Pages}
use Rattle.jfs_recovery.specs.Lines.{ReadsEdits}
use Rattle.jfs_face.specs.Places.{Places, AreInAreas}
use Rattle.jfs_face.specs.Volume.{face_of}

-- where its maps stand in its fixed areas; and its log is read edit by edit
abbrev pub FaceLaw : Type 0
FaceLaw = (r : Readers) (pl : Places) (changes : Pages → List Edit → ℕ → Bool) → AreInAreas pl → IsFace (face_of r pl changes) × ReadsEdits (face_of r pl changes)
