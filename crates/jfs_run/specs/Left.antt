-- What a run leaves: whatever a crash leaves of its disk, redo makes a front of the run of it, or it is the image of a volume that was unmounted.
use Rattle.std.specs.Prelude.{◌≡◌, ◌⊎◌, ◌≤◌, ℕ, Bool, false, List}
use Rattle.std.specs.List.{AllByRecursion}
use Rattle.jfs_bits.specs.declared.descriptor.Moment.{Moment}
use Rattle.jfs_disk.specs.Crash.{DiskState, Leaves}
use Rattle.jfs_disk.specs.Image.{Image, page_of}
use Rattle.jfs_super.specs.declared.fields.Super.{Super}
use Rattle.jfs_plain.specs.declared.call.Entry.{Entry}
use Rattle.jfs_server.specs.shared.specs.kept_history.specs.Crash.{IsRedoneToHistory}
use Rattle.jfs_server.specs.shared.specs.kept_history.specs.Failed.{LeavesNeverMounted}
use Rattle.jfs_server.specs.shared.specs.kept_history.specs.Kept.{Lasting, timed_in}
use Rattle.jfs_server.specs.shared.specs.kept_history.specs.mounted_maps.specs.Keepable.{IsKeepable}
use Rattle.jfs_run.specs.Calls.{Calls, NoCalls}
use Rattle.jfs_run.specs.Legal.{FollowsTree, EndsOnTree, all_at}
use Rattle.jfs_run.specs.Run.{StayBeside}
use Rattle.jfs_run.specs.declared.run.RunEnd.{RunEnd}
use Rattle.jfs_run.specs.declared.run.RunEnd.TheVariants as ends

-- The entries are a legal history from a volume on that begins as the image's. Whatever a crash leaves of a disk in this state is redone to that history, with the first so many entries and maybe more.
pub record IsLeftWith (s : Super) (image : Image) (now : Moment) (es : List Entry) (durable : ℕ) (state : DiskState) : Type 0 where
  pub follows : FollowsTree s (page_of image) now es
  -- the entries, with what each has in the log
  pub list : List Lasting
  pub entries_are : timed_in list ≡ all_at now es
  pub redone : Leaves (λ left. IsRedoneToHistory s (page_of image) follows.start list durable left) state

-- A clean and consistent image with the tree behind the last entry; it is keepable again, so that the next run is kept as this one is.
pub record IsUnmountedBehind (s : Super) (image : Image) (now : Moment) (es : List Entry) (left : Image) : Type 0 where
  pub ends : EndsOnTree s (page_of image) now es left
  pub keepable : IsKeepable s (page_of left)

-- So it is of whatever a crash leaves of a disk in this state; or that is such an image, where the volume wasn't to be left.
pub record IsEndedWith (s : Super) (image : Image) (now : Moment) (is_left : Bool) (es : List Entry) (durable : ℕ) (state : DiskState) : Type 0 where
  pub follows : FollowsTree s (page_of image) now es
  pub list : List Lasting
  pub entries_are : timed_in list ≡ all_at now es
  pub left : Leaves (λ left. IsRedoneToHistory s (page_of image) follows.start list durable left ⊎ ((is_left ≡ false) × IsUnmountedBehind s image now es left)) state

-- all entries that were told durable are among the first ones
pub record IsLeftRun (s : Super) (image : Image) (now : Moment) (is_left : Bool) (c : Calls) (state : DiskState) : Type 0 where
  pub durable : ℕ
  pub told_are : AllByRecursion (λ number. number ≤ durable) c.told
  pub ended : IsEndedWith s image now is_left c.history durable state

-- No volume was mounted: all pages but page 8 and the log's are as they were. And where this premise holds, as that nothing was pending before, a crash leaves the image's tree, or a disk that is redone to it.
pub record IsLeftNeverMounted (s : Super) (image new : Image) (premise : Type 0) (state : DiskState) : Type 0 where
  pub pages : StayBeside s image new
  pub left : premise → Leaves (LeavesNeverMounted s image) state

-- So it is of a run that is done. One that was stopped may have called nothing; this may be left then instead.
abbrev pub LeavesRun : (never_mounted : Type 0) → Super → Image → Moment → Bool → Calls → DiskState → RunEnd → Type 0
LeavesRun never_mounted s image now is_left c state ends.Done = IsLeftRun s image now is_left c state
LeavesRun never_mounted s image now is_left c state ends.Disk = (NoCalls c × never_mounted) ⊎ IsLeftRun s image now is_left c state
LeavesRun never_mounted s image now is_left c state ends.Memory = (NoCalls c × never_mounted) ⊎ IsLeftRun s image now is_left c state
LeavesRun never_mounted s image now is_left c state (ends.BadImage bad) = NoCalls c × never_mounted
