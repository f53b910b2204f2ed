-- A crash of a mounted volume, and the redo of its disk.
use Rattle.std.specs.Prelude.{◌≡◌, ◌≤◌, ◌<◌, ◌+◌, ◌-◌, ◌/◌, ℕ, Bool, List, ◌∷◌, map, length}
use Rattle.std.specs.List.{AllByRecursion}
use Rattle.jfs_disk.specs.Image.{Image, page_of, ArePages}
use Rattle.jfs_disk.specs.Crash.{IsCrashImage}
use Rattle.jfs_ranges.specs.declared.edit.Edit.{Edit}
use Rattle.jfs_super.specs.Rules.{blocks_of}
use Rattle.jfs_super.specs.declared.fields.Super.{Super}
use Rattle.jfs_records.specs.Committed.{committed}
use Rattle.jfs_halves.specs.Half.{low_in}
use Rattle.jfs_halves.specs.Half.{Halves}
use Rattle.jfs_halves.specs.Both.{BothChange, after}
use Rattle.jfs_recovery.specs.objects.specs.Volume.{Volume}
use Rattle.jfs_recovery.specs.objects.specs.Image.{volume_on}
use Rattle.jfs_recovery.specs.kinds.specs.Images.{IsSameVolume}
use Rattle.jfs_recovery.specs.Face.{Pages}
use Rattle.jfs_recovery.specs.Core.{Core, Step, after_steps}
use Rattle.jfs_face.specs.Places.{Places}
use Rattle.jfs_face.specs.Volume.{face_of}
use Rattle.jfs_survival.specs.Laws.{IsRunOf}
use Rattle.jfs_survival.specs.Stands.{IsCoreOf}
use Rattle.jfs_image_volumes.specs.Crash.{AreVolumesOf}
use Rattle.jfs_log_window.specs.Events.{IsQuiet}
use Rattle.jfs_log_window.specs.Window.{CommitsWindow}
use Rattle.jfs_redo.specs.Redo.{IsRedone}
use Rattle.jfs_redo.specs.mount_rules.specs.meaning.specs.Readers.{readers}
use Rattle.jfs_redone_volumes.specs.Redone.{found_places, CanBeRedone}

abbrev pub groups_in : Super → ℕ
groups_in s = (blocks_of s + s.agsize - 1) / s.agsize

-- A crash left this image of the disk: of the volume's part what it may leave, and a log whose committed transactions are a window of the history. The maps are where they were mounted, and can be redone.
pub record HasCrashed (s : Super) (pl : Places) (both : Halves) (old : Image) (ring size : ℕ) (log : Image) : Type 0 where
  pub low : Image
  pub crash : IsCrashImage (low_in both.volume) low
  pub same : (p : ℕ) → p < length low → page_of old p ≡ page_of low p
  pub long : blocks_of s ≤ length low
  pub window : CommitsWindow ring size log both
  pub quiet : AllByRecursion IsQuiet both.volume.history
  pub places : found_places s old ≡ pl

abbrev pub committed_by : {ring size : ℕ} {log : Image} {both : Halves} → CommitsWindow ring size log both → List (List Edit)
committed_by w = committed (map (λ m. m.is) (w.m ∷ w.ms))

-- The redone disk has the volume after a front of the history, with all that was acknowledged before some changes.
pub record IsRecovered (s : Super) (core : Core) (n : ℕ) (volumes : ℕ → Volume) (new : Image) : Type 0 where
  pub told : core.told ≤ n
  pub volume : IsSameVolume (readers (blocks_of s)) (volumes n) (volume_on (readers (blocks_of s)) (blocks_of s) s.ait2 s.aim2 (page_of new))

abbrev pub RecoveredLaw : Type 0
RecoveredLaw = (s : Super) (pl : Places) (changes : Pages → List Edit → ℕ → Bool) (both : Halves) (core : Core) (list : List BothChange) (steps : List Step) (volumes : ℕ → Volume)
    → IsCoreOf (face_of (readers (blocks_of s)) pl changes) both core → IsRunOf (face_of (readers (blocks_of s)) pl changes) both core list steps
    → AreVolumesOf (readers (blocks_of s)) (blocks_of s) s.agsize (groups_in s) s.ait2 s.aim2 pl (after_steps (face_of (readers (blocks_of s)) pl changes) core steps) volumes
    → (old new : Image) (ring size : ℕ) (log : Image) (crashed : HasCrashed s pl (after both list) old ring size log)
    → CanBeRedone s (committed_by crashed.window) old → IsRedone s (committed_by crashed.window) old new → blocks_of s ≤ length new → ArePages (length new) new
    → IsRecovered s core crashed.window.n volumes new
