-- A volume that a crash left while it was mounted, redone by what its own log commits.
use Rattle.std.specs.Prelude.{ℕ, Bool, List, ◌∷◌, map}
use Rattle.std.specs.List.{AllByRecursion}
use Rattle.jfs_bits.specs.declared.descriptor.Pxd.{Pxd}
use Rattle.jfs_disk.specs.Image.{Image}
use Rattle.jfs_disk.specs.Crash.{IsCrashImage}
use Rattle.jfs_ranges.specs.declared.edit.Edit.{Edit}
use Rattle.jfs_records.specs.Committed.{committed}
use Rattle.jfs_halves.specs.Half.{Halves, low_in}
use Rattle.jfs_halves.specs.Both.{BothChange, after}
use Rattle.jfs_recovery.specs.objects.specs.Readers.{Readers}
use Rattle.jfs_recovery.specs.objects.specs.Volume.{Volume}
use Rattle.jfs_recovery.specs.Face.{Pages, IsRedone}
use Rattle.jfs_recovery.specs.Core.{Core, Step, after_steps}
use Rattle.jfs_face.specs.Places.{Places}
use Rattle.jfs_face.specs.Volume.{face_of}
use Rattle.jfs_survival.specs.Laws.{IsRunOf, left_by}
use Rattle.jfs_survival.specs.Stands.{IsCoreOf}
use Rattle.jfs_image_volumes.specs.Crash.{AreVolumesOf, IsVolumeOfPrefix}
use Rattle.jfs_log_window.specs.Events.{IsQuiet}
use Rattle.jfs_log_window.specs.Window.{CommitsWindow}

-- After any changes of a mounted volume's halves that are a run of the core, whatever a crash leaves of the low part and of the log, whose committed transactions are a window of the history:
-- redo by these leaves the volume after a front of the history, with all that was acknowledged before the changes.
abbrev pub LeftLaw : Type 0
LeftLaw = (r : Readers) (blocks agsize numag : ℕ) (table map_at : Pxd) (pl : Places) (changes : Pages → List Edit → ℕ → Bool) (both : Halves) (core : Core) (list : List BothChange) (steps : List Step) (volumes : ℕ → Volume)
    → IsCoreOf (face_of r pl changes) both core → IsRunOf (face_of r pl changes) both core list steps → AreVolumesOf r blocks agsize numag table map_at pl (after_steps (face_of r pl changes) core steps) volumes
    → (low : Image) → IsCrashImage (low_in (after both list).volume) low
    → (ring size : ℕ) (log : Image) (w : CommitsWindow ring size log (after both list)) → AllByRecursion IsQuiet (after both list).volume.history
    → (redone : Pages) → IsRedone (face_of r pl changes) (left_by (after_steps (face_of r pl changes) core steps) low) (committed (map (λ m. m.is) (w.m ∷ w.ms))) redone
    → IsVolumeOfPrefix r blocks table map_at core (after_steps (face_of r pl changes) core steps) w.n redone (volumes w.n)
