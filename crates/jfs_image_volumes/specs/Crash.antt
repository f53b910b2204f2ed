-- The images of a core's history are its volumes', so a crash and redo leave the volume after a front of it.
use Rattle.std.specs.Prelude.{◌<◌, ◌≤◌, ℕ, suc, Bool, List}
use Rattle.jfs_bits.specs.declared.descriptor.Pxd.{Pxd}
use Rattle.jfs_disk.specs.Image.{Image}
use Rattle.jfs_disk.specs.Crash.{IsCrashImage}
use Rattle.jfs_ranges.specs.declared.edit.Edit.{Edit}
use Rattle.jfs_survival.specs.halves.specs.Half.{Halves, low_in}
use Rattle.jfs_survival.specs.halves.specs.Both.{BothChange, after}
use Rattle.jfs_survival.specs.recovery.specs.objects.specs.Readers.{Readers}
use Rattle.jfs_survival.specs.recovery.specs.objects.specs.Volume.{Volume}
use Rattle.jfs_survival.specs.recovery.specs.objects.specs.Image.{volume_on}
use Rattle.jfs_survival.specs.recovery.specs.kinds.specs.Images.{IsSameVolume}
use Rattle.jfs_survival.specs.recovery.specs.Face.{Pages, IsRedone}
use Rattle.jfs_survival.specs.recovery.specs.Core.{Core, Step, count, entry, image, after_steps}
use Rattle.jfs_survival.specs.recovery.specs.Sound.{IsSound, IsLogImage, window}
use Rattle.jfs_survival.specs.face.specs.Places.{Places}
use Rattle.jfs_survival.specs.face.specs.Recovered.{IsAfterPrefix}
use Rattle.jfs_survival.specs.face.specs.Volume.{face_of}
use Rattle.jfs_survival.specs.Laws.{IsRunOf, left_by}
use Rattle.jfs_survival.specs.Stands.{IsCoreOf}
use Rattle.jfs_image_volumes.specs.Next.{IsImageOfVolume, MayFollow}

-- ---- a history

-- The volumes of a core's history: the image that was mounted is the first one's, and each entry leads from one to the next.
pub record AreVolumesOf (r : Readers) (blocks agsize numag : ℕ) (table map : Pxd) (pl : Places) (core : Core) (volumes : ℕ → Volume) : Type 0 where
  pub first : IsImageOfVolume r blocks agsize numag table map pl core.mounted (volumes 0)
  pub each : (k : ℕ) → k < count core → MayFollow r pl (volumes k) (volumes (suc k)) (entry core k)

-- So each image of a sound core is its volume's.
abbrev pub HistoryLaw : Type 0
HistoryLaw = (r : Readers) (blocks agsize numag : ℕ) (table map : Pxd) (pl : Places) (changes : Pages → List Edit → ℕ → Bool) (core : Core) (volumes : ℕ → Volume) → IsSound (face_of r pl changes) core
    → AreVolumesOf r blocks agsize numag table map pl core volumes → (k : ℕ) → k ≤ count core → IsImageOfVolume r blocks agsize numag table map pl (image core k) (volumes k)

-- ---- a crash

-- Redo finds the first n entries, all that was acknowledged before among them, and the redone volume has the sets, the places, the objects and the owners of the volume after them; its maps agree.
pub record IsVolumeOfPrefix (r : Readers) (blocks : ℕ) (table map : Pxd) (core later : Core) (n : ℕ) (redone : Pages) (v : Volume) : Type 0 where
  pub prefix : IsAfterPrefix r blocks table map core later n redone
  pub volume : IsSameVolume r v (volume_on r blocks table map redone)

-- After any changes of a mounted volume's halves that are a run of the core, whatever a crash leaves of the low part, and for each log image.
abbrev pub CrashLaw : Type 0
CrashLaw = (r : Readers) (blocks agsize numag : ℕ) (table map : Pxd) (pl : Places) (changes : Pages → List Edit → ℕ → Bool) (both : Halves) (core : Core) (list : List BothChange) (steps : List Step) (volumes : ℕ → Volume)
    → IsCoreOf (face_of r pl changes) both core → IsRunOf (face_of r pl changes) both core list steps → AreVolumesOf r blocks agsize numag table map pl (after_steps (face_of r pl changes) core steps) volumes
    → (low : Image) → IsCrashImage (low_in (after both list).volume) low → (c n : ℕ) → IsLogImage (after_steps (face_of r pl changes) core steps) c n
    → (redone : Pages) → IsRedone (face_of r pl changes) (left_by (after_steps (face_of r pl changes) core steps) low) (window (after_steps (face_of r pl changes) core steps) c n) redone
    → IsVolumeOfPrefix r blocks table map core (after_steps (face_of r pl changes) core steps) n redone (volumes n)
