-- What a crash leaves of the disk of a volume and its log, and what redo makes of it.
use Rattle.std.specs.Prelude.{◌≡◌, ◌++◌, [], ℕ, List, None}
use Rattle.jfs_disk.specs.Crash.{DiskState, Leaves, last_of, seen_of}
use Rattle.jfs_disk.specs.Image.{Image, page_of}
use Rattle.jfs_disk.specs.Moment.{IsResting}
use Rattle.jfs_disk.specs.declared.disk.Disk.{Ghosts}
use Rattle.jfs_super.specs.declared.fields.Super.{Super}
use Rattle.jfs_groups.specs.declared.log.SharedLog.{SharedLog}
use Rattle.jfs_kept_history.specs.legal.specs.served.specs.halves.specs.Log.{LogParts}
use Rattle.jfs_kept_history.specs.legal.specs.served.specs.halves.specs.Parts.{Parts}
use Rattle.jfs_kept_history.specs.legal.specs.served.specs.shown.specs.meaning.specs.Image as meaning
use Rattle.jfs_kept_history.specs.legal.specs.served.specs.Laws.{HoldsImage}
use Rattle.jfs_kept_history.specs.legal.specs.History.{AreLegal}
use Rattle.jfs_kept_history.specs.Crash.{IsRedoneToHistory}
use Rattle.jfs_kept_history.specs.Keepable.{IsKeepableImage}
use Rattle.jfs_kept_history.specs.Unmounted.{LeavesKeepable}
use Rattle.jfs_shared.specs.Both.{Seen, AreOf}
use Rattle.jfs_shared.specs.Entries.{Recorded}
use Rattle.jfs_shared.specs.Shared.{IfKeepable, timed_in, lasting_in, standing, log_standing}
use Rattle.jfs_shared.specs.Start.{IsJustMounted}
use Rattle.jfs_shared.specs.declared.shared.SharedVolume.{SharedVolume}

-- From a volume on that holds the image's tree and hasn't halted, these entries are a legal history; and whatever a crash leaves of a disk in this state is redone to that history, with all durable entries.
pub record IsLeft (s : Super) (image : Image) (list : List Recorded) (durable : ℕ) (state : DiskState) : Type 0 where
  pub start : Parts
  pub holds : HoldsImage s (page_of image) start
  pub runs : start.halted ≡ None
  pub legal : AreLegal (meaning.volume_of s (page_of image)).area s.logpxd.len start (timed_in list)
  pub redone : Leaves (λ left. IsRedoneToHistory s (page_of image) start (lasting_in list) durable left) state

-- so it is of both parts of the disk, whether or not the log has halted or the history broke off
abbrev pub LeftLaw : {D : Type 0} (d : Ghosts D) → Type 0
LeftLaw {D} d = (n : Seen) (x : SharedVolume D) (y : SharedLog D d) → AreOf (standing d) (log_standing d) n x y → d.tells → d.tells_crashes
    → IfKeepable n.base (λ s image. IsLeft s image n.list n.durable (last_of x.volume.past ++ last_of (d.past y.side.part)))

-- And it is so of a volume that was just mounted, and never shared: no entry was made, nothing is pending of its part of the disk, and an image that it leaves when it is unmounted is keepable again.
pub record IsLeftUncalled (s : Super) (image : Image) (volume : Parts) (log : LogParts) : Type 0 where
  pub left : IsLeft s image [] 0 (last_of volume.past ++ last_of log.past)
  pub again : LeavesKeepable s (page_of image) volume
  pub rests : IsResting (last_of volume.past)

abbrev pub UncalledLaw : (tells crashes : Type 0) → Type 0
UncalledLaw tells crashes = tells → crashes → (s : Super) (image : Image) (volume : Parts) (log : LogParts) → IsJustMounted tells crashes s image volume log → log.image ≡ seen_of (last_of log.past) → IsKeepableImage s image → IsLeftUncalled s image volume log
