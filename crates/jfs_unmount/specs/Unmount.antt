-- A volume that was unmounted, and one that wasn't.
use Rattle.std.specs.Prelude.{◌≡◌, ◌≢◌, ◌⊎◌, ◌<◌, ◌+◌, ◌-◌, ◌^◌, ◌++◌, ℕ, List, set, take, min, None, false, Result, Ok, Err}
use Rattle.jfs_bits.specs.Count.{Rose}
use Rattle.jfs_disk.specs.Image.{Image, page_of}
use Rattle.jfs_disk.specs.Crash.{DiskState, IsCrashImage, last_of, AllSince, Leaves, TearsPage}
use Rattle.jfs_disk.specs.Moment.{IsResting, now_of}
use Rattle.jfs_disk.specs.declared.disk.Fault.{Fault}
use Rattle.jfs_disk.specs.declared.disk.Part.TheVariants.{Low}
use Rattle.jfs_super.specs.Super.{super_of}
use Rattle.jfs_mounted.specs.pages.specs.Dirty.{dirty_of}
use Rattle.jfs_volume_calls.specs.halves.specs.Parts.{Parts}
use Rattle.jfs_volume_calls.specs.halves.specs.Log.{LogParts}

-- ---- before it

-- No page is dirty, and the pages of each map that had changed are written.
pub record IsAllHome (p : Parts) : Type 0 where
  pub clean : (q : ℕ) → dirty_of p.dirty q ≡ None
  pub block_map : p.files.blocks.stale ≡ false
  pub inode_map : p.files.inodes.stale ≡ false

-- ---- the superblock's page

-- the low part with this page 8
abbrev pub with_super : List ℕ → Image → Image
with_super superblock low = set low 8 superblock

-- After a failed write a read gives some front sectors of the new page and the rest of the old one; a failed sync leaves it written.
abbrev pub MarksClean : {T : Type 0} → List ℕ → Image → Image → Result T Fault → Type 0
MarksClean superblock old new (Ok done) = new ≡ with_super superblock old
MarksClean superblock old new (Err fault) = TearsPage 8 superblock old new

-- ---- at Ok

-- The superblock's page is put into its place: the disk has the pages that the volume shows, but for that one, and behind them the log. Nothing of the low part is pending.
pub record Ends (tells crashes : Type 0) (superblock : List ℕ) (old : Parts) (log : LogParts) (image : Image) (past : List DiskState) : Type 0 where
  pub image_is : tells → image ≡ with_super superblock old.disk ++ log.image
  pub superblock_is : tells → page_of image 8 ≡ superblock
  pub pages_are : tells → (b : ℕ) → b ≢ 8 → b < old.blocks → page_of image b ≡ page_of old.view b
  pub disk_are : tells → (b : ℕ) → b ≢ 8 → b < old.blocks → page_of image b ≡ page_of old.disk b
  pub low : DiskState
  pub rests : crashes → IsResting low
  pub state : crashes → last_of past ≡ low ++ last_of log.past

-- ---- at Err

-- The low part's count rose to the fault's; the disk, joined again, has the counts of both.
pub record IsUnmountCause (low high now : ℕ) (fault : Fault) : Type 0 where
  pub part : fault.part ≡ Low
  pub own : Rose low fault.count
  pub now_is : now ≡ min (fault.count + high) (2 ^ 64 - 1)
  pub rose : Rose (min (low + high) (2 ^ 64 - 1)) now

-- A read of the low part gives front sectors of the superblock's new page over the old one, and all else as it was.
pub record IsUnended (superblock : List ℕ) (old : Parts) (log : LogParts) (image : Image) : Type 0 where
  pub low : Image
  pub torn : TearsPage 8 superblock old.disk low
  pub image_is : image ≡ low ++ log.image

-- ---- what a crash leaves

-- A superblock that says what the new one says. All other pages are those that the volume shows, and that its part of the disk has.
pub record IsMarkedLeft (superblock : List ℕ) (old : Parts) (left : Image) : Type 0 where
  pub superblock_is : super_of (page_of left 8) ≡ super_of superblock
  pub pages_are : (b : ℕ) → b ≢ 8 → b < old.blocks → page_of left b ≡ page_of old.view b
  pub disk_are : (b : ℕ) → b ≢ 8 → b < old.blocks → page_of left b ≡ page_of old.disk b

-- That, or what it may leave of both parts as they were.
abbrev pub MayBeMarked : List ℕ → Parts → LogParts → Image → Type 0
MayBeMarked superblock old log left = IsCrashImage (last_of old.past ++ last_of log.past) left ⊎ IsMarkedLeft superblock old left

-- So it is of a disk in this state, where nothing of the low part was pending.
abbrev pub LeavesMarked : (tells crashes : Type 0) → List ℕ → Parts → LogParts → DiskState → Type 0
LeavesMarked tells crashes superblock old log state = tells → crashes → IsResting (last_of old.past) → Leaves (MayBeMarked superblock old log) state

-- At each moment since an unmount began it leaves of the low part what that held, but for front sectors of the superblock's new page over the old one. All fields of a superblock stand in the first sector of its page: so it is the old one or the new one.
abbrev pub MomentsMarked : (tells crashes : Type 0) → List ℕ → Parts → List DiskState → Type 0
MomentsMarked tells crashes superblock old past = tells → crashes → IsResting (last_of old.past) → AllSince (λ left. TearsPage 8 superblock old.disk (take old.count left)) past (now_of old.past)
