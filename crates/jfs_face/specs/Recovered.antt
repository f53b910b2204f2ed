-- What is there after a crash and redo.
use Rattle.std.specs.Prelude.{◌≡◌, ◌≤◌, ℕ, Bool, List, take}
use Rattle.jfs_bits.specs.declared.descriptor.Pxd.{Pxd}
use Rattle.jfs_ranges.specs.declared.edit.Edit.{Edit}
use Rattle.jfs_steps.specs.objects.specs.Readers.{Readers}
use Rattle.jfs_steps.specs.objects.specs.Owners.{IsSound}
use Rattle.jfs_steps.specs.objects.specs.Image.{volume_on}
use Rattle.jfs_recovery.specs.kinds.specs.Images.{HasWholeFiles, IsSameVolume}
use Rattle.jfs_recovery.specs.Face.{Pages, IsRedone}
use Rattle.jfs_recovery.specs.Core.{Core, Step, count, image, AreAllowed, after_steps}
use Rattle.jfs_recovery.specs.Sound.{IsSound as IsSoundCore, IsLeft, IsLogImage, window}
use Rattle.jfs_face.specs.Places.{Places}
use Rattle.jfs_face.specs.Volume.{face_of}
use Rattle.jfs_face.specs.Mounted.{places_on, HasMapPages}

-- A volume on an image whose maps agree, with its maps at these places.
pub record IsVolumeAt (r : Readers) (blocks agsize numag : ℕ) (table map : Pxd) (pl : Places) (page : Pages) : Type 0 where
  pub sound : IsSound r (volume_on r blocks table map page)
  pub files : HasWholeFiles r page
  pub pages : HasMapPages r blocks page
  pub places : places_on r blocks agsize numag table map page ≡ pl

-- Redo finds the first n entries of the history, all that was told before some steps among them. The volume that it leaves has the sets, places, objects and owners of the one after these entries, and its maps agree.
pub record IsAfterPrefix (r : Readers) (blocks : ℕ) (table map : Pxd) (core later : Core) (n : ℕ) (redone : Pages) : Type 0 where
  pub told : core.told ≤ n
  pub within : n ≤ count later
  pub grown : take (count core) later.history ≡ core.history
  pub volume : IsSameVolume r (volume_on r blocks table map (image later n)) (volume_on r blocks table map redone)

abbrev pub RecoveredLaw : Type 0
RecoveredLaw = (r : Readers) (blocks agsize numag : ℕ) (table map : Pxd) (pl : Places) (changes : Pages → List Edit → ℕ → Bool) (core : Core) (steps : List Step)
    → IsSoundCore (face_of r pl changes) core → AreAllowed (face_of r pl changes) core steps
    → (low : Pages) (c n : ℕ) (redone : Pages) → IsLeft (after_steps (face_of r pl changes) core steps) low → IsLogImage (after_steps (face_of r pl changes) core steps) c n
    → IsRedone (face_of r pl changes) low (window (after_steps (face_of r pl changes) core steps) c n) redone
    → IsVolumeAt r blocks agsize numag table map pl (image (after_steps (face_of r pl changes) core steps) n)
    → IsAfterPrefix r blocks table map core (after_steps (face_of r pl changes) core steps) n redone
