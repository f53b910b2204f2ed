-- Changes of a mounted volume's halves are a run of the core of log redo, and what a crash then leaves.
use Rattle.std.specs.Prelude.{◌≡◌, ◌<◌, ℕ, Bool, true, nat_lt, if◌then◌else◌, List, length}
use Rattle.jfs_bits.specs.declared.descriptor.Pxd.{Pxd}
use Rattle.jfs_disk.specs.Image.{Image, page_of}
use Rattle.jfs_disk.specs.Crash.{IsCrashImage}
use Rattle.jfs_ranges.specs.declared.edit.Edit.{Edit}
use Rattle.jfs_logged.specs.halves.specs.Entry.{Shown}
use Rattle.jfs_logged.specs.halves.specs.Half.{Halves, low_in}
use Rattle.jfs_logged.specs.halves.specs.Both.{BothChange, FitAll, after}
use Rattle.jfs_logged.specs.halves.specs.Laws.{fresh_halves}
use Rattle.jfs_face.specs.recovery.specs.objects.specs.Readers.{Readers}
use Rattle.jfs_face.specs.recovery.specs.Face.{Face, Pages, item, IsRedone}
use Rattle.jfs_face.specs.recovery.specs.Core.{Core, Step, image, AreAllowed, after_steps}
use Rattle.jfs_face.specs.recovery.specs.Mount.{fresh, IsMounted}
use Rattle.jfs_face.specs.recovery.specs.Sound.{IsLogImage, window}
use Rattle.jfs_face.specs.Places.{Places, AreInAreas}
use Rattle.jfs_face.specs.Volume.{face_of}
use Rattle.jfs_face.specs.Recovered.{IsVolumeAt, IsAfterPrefix}
use Rattle.jfs_survival.specs.Stands.{IsCoreOf}
use Rattle.jfs_survival.specs.Played.{ArePlayed}

-- ---- a run

-- the steps are allowed, one after another, and lead to the core of the halves after all changes
pub record IsRunOf (f : Face) (both : Halves) (core : Core) (list : List BothChange) (steps : List Step) : Type 0 where
  pub allowed : AreAllowed f core steps
  pub core_is : IsCoreOf f (after both list) (after_steps f core steps)

abbrev pub RunLaw : Type 0
RunLaw = (r : Readers) (pl : Places) (changes : Pages → List Edit → ℕ → Bool) (both : Halves) (core : Core) (list : List BothChange) (steps : List Step) → AreInAreas pl
    → IsCoreOf (face_of r pl changes) both core → FitAll both list → ArePlayed (face_of r pl changes) both core list steps → IsRunOf (face_of r pl changes) both core list steps

-- ---- its start

-- A volume that was just mounted: the core has the pages that it shows, and past them what a disk has there.
abbrev pub StartLaw : Type 0
StartLaw = (r : Readers) (pl : Places) (changes : Pages → List Edit → ℕ → Bool) (ring : ℕ) (shown : Shown) (low s : Pages) → AreInAreas pl
    → IsMounted (face_of r pl changes) low s → ((p : ℕ) → (face_of r pl changes).is_map p ≡ true → (face_of r pl changes).IsMap s (item (face_of r pl changes) s) p (s p))
    → ((p : ℕ) → p < length shown.pages → low p ≡ page_of shown.pages p) → IsCoreOf (face_of r pl changes) (fresh_halves ring shown) (fresh (face_of r pl changes) low s)

-- ---- a crash

-- what a crash left of the volume's part of the disk, and past it what a read gives there
abbrev pub left_by : Core → Image → Pages
left_by core low p = if nat_lt p (length low) then page_of low p else (core.slots p).block.pages.seen

-- After any changes, whatever a crash leaves of the low part, and for each log image: redo finds a front of the history with all that was acknowledged before the changes, and the volume that it leaves is the one after that front.
abbrev pub CrashLaw : Type 0
CrashLaw = (r : Readers) (blocks agsize numag : ℕ) (table map : Pxd) (pl : Places) (changes : Pages → List Edit → ℕ → Bool) (both : Halves) (core : Core) (list : List BothChange) (steps : List Step)
    → IsCoreOf (face_of r pl changes) both core → IsRunOf (face_of r pl changes) both core list steps → (low : Image) → IsCrashImage (low_in (after both list).volume) low
    → (c n : ℕ) → IsLogImage (after_steps (face_of r pl changes) core steps) c n
    → (redone : Pages) → IsRedone (face_of r pl changes) (left_by (after_steps (face_of r pl changes) core steps) low) (window (after_steps (face_of r pl changes) core steps) c n) redone
    → IsVolumeAt r blocks agsize numag table map pl (image (after_steps (face_of r pl changes) core steps) n)
    → IsAfterPrefix r blocks table map core (after_steps (face_of r pl changes) core steps) n redone
