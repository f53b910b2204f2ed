-- A disk on which a volume is mounted: cut before its log, which is fresh, and with state 1 on page 8.
use Rattle.std.specs.Prelude.{◌≡◌, ◌⊎◌, ◌<◌, ◌≤◌, ◌+◌, ◌-◌, ◌*◌, ◌^◌, ℕ, None, Result, Ok, Err, min, set, take, drop, List}
use Rattle.jfs_bits.specs.Count.{Rose}
use Rattle.jfs_bits.specs.Piece.{puts}
use Rattle.jfs_disk.specs.Image.{Image, page_of}
use Rattle.jfs_disk.specs.Crash.{TearsPage}
use Rattle.jfs_disk.specs.declared.disk.Disk.{Ghosts}
use Rattle.jfs_disk.specs.declared.disk.DiskError.{DiskError}
use Rattle.jfs_disk.specs.declared.disk.Fault.{Fault}
use Rattle.jfs_disk.specs.declared.disk.DiskError.TheVariants.{Failed, Memory}
use Rattle.jfs_disk.specs.declared.disk.Part.TheVariants.{Low, High}
use Rattle.jfs_logpages.specs.Fresh.{IsFreshLog}
use Rattle.jfs_logpages.specs.Group.{position_of}
use Rattle.jfs_super.specs.Super.{pieces}
use Rattle.jfs_super.specs.declared.fields.Super.{Super}
use Rattle.jfs_super.specs.declared.fields.TheConstants.VolumeState.{MOUNTED}
use Rattle.jfs_mount_disk.specs.declared.ready.Begun.{Begun}
use Rattle.jfs_mount_disk.specs.declared.ready.BeginError.{BeginError}
use Rattle.jfs_mount_disk.specs.declared.ready.BeginError.TheVariants as errors

-- page 8, with a superblock that says that the volume is mounted
abbrev pub marked_page : Super → List ℕ → List ℕ
marked_page s page = puts (pieces (record s { state = MOUNTED })) page

-- the pages of the low part, with that page
abbrev pub marked : Super → Image → Image
marked s low = set low 8 (marked_page s (page_of low 8))

-- The pages before the log are as they were, but for that page.
abbrev pub IsMarked : Super → Image → Image → Type 0
IsMarked s old low = low ≡ marked s (take s.logpxd.addr old)

-- a crash on the way leaves front sectors of that page over the old one
abbrev pub IsPartlyMarked : Super → Image → Image → Type 0
IsPartlyMarked s old left = TearsPage 8 (marked_page s (page_of old 8)) old left

-- Both parts of a disk: so many pages as it had, and so many faults; the parts may be joined again, and no group was written yet.
pub record HasParts {D : Type 0} (d : Ghosts D) (s : Super) (disk : D) (begun : Begun D d) : Type 0 where
  pub low_pages : d.page_count begun.low ≡ s.logpxd.addr
  pub log_pages : d.page_count begun.log.part ≡ d.page_count disk - s.logpxd.addr
  pub room : d.page_count begun.low + d.page_count begun.log.part ≤ d.room begun.low
  pub faults : d.fault_count begun.low + d.fault_count begun.log.part ≡ d.fault_count disk
  pub ring : begun.log.last.ring ≡ s.logpxd.len - 2
  -- its text ends with the one record of its last page
  pub position : position_of begun.log.last ≡ 4080 * (s.logpxd.len - 3) + 36
  pub durable : begun.log.durable ≡ 0
  pub running : begun.log.halted ≡ None

-- all pages but page 8 and the log's stay
abbrev pub LeavesRest : Super → Image → Image → Type 0
LeavesRest s old new = (n : ℕ) → (n ≡ 8 → ⊥) → (s.logpxd.addr < n → n < s.logpxd.addr + s.logpxd.len → ⊥) → page_of new n ≡ page_of old n

-- ---- the low part

-- after a failed write a read gives some front sectors of the new page and the rest of the old one
abbrev pub MarksOrLeaves : {T : Type 0} → Super → Image → Image → Result T BeginError → Type 0
MarksOrLeaves s old new (Ok it) = new ≡ marked s old
MarksOrLeaves s old new (Err why) = (n : ℕ) → (n ≡ 8 → ⊥) → page_of new n ≡ page_of old n

abbrev pub low_error : DiskError → ℕ → BeginError
low_error Failed count = errors.Disk (record { part = Low; count = count })
low_error Memory count = errors.Memory

-- A call of the low part failed: the fault names it, and how often calls of it failed.
abbrev pub IsLowCause : ℕ → ℕ → BeginError → Type 0
IsLowCause before now (errors.Disk fault) = Rose before now × (fault ≡ record { part = Low; count = now })
IsLowCause before now errors.Memory = now ≡ before

-- ---- a failed call

-- A call on a part failed: the fault names the part, and how often calls of it failed. No call of the other part failed since the cut; the disk, joined again, has the counts of both.
pub record IsPartFault (before now : ℕ) (fault : Fault) : Type 0 where
  pub part : (fault.part ≡ Low) ⊎ (fault.part ≡ High)
  pub own : ℕ
  pub other : ℕ
  pub cut : own + other ≡ before
  pub rose : Rose own fault.count
  pub both : now ≡ min (fault.count + other) (2 ^ 64 - 1)

-- the count of faults rises with a fault alone, which is a part's
abbrev pub IsCause : ℕ → ℕ → BeginError → Type 0
IsCause before now (errors.Disk fault) = Rose before now × IsPartFault before now fault
IsCause before now errors.Memory = now ≡ before

-- After a failed call a crash leaves of the pages before the log old ones, and front sectors of the new page 8 over the old one.
abbrev pub LeavesLow : Super → Image → Image → Type 0
LeavesLow s old left = IsPartlyMarked s (take s.logpxd.addr old) (take s.logpxd.addr left)

-- Where the low part failed, the log is made. Where memory ran out, it is made, or it and all behind it are as they were.
abbrev pub LeavesLog : Super → Image → BeginError → Image → Type 0
LeavesLog s old (errors.Disk fault) left = fault.part ≡ Low → IsFreshLog s.logpxd.len s.uuid (drop s.logpxd.addr left)
LeavesLog s old errors.Memory left = (drop s.logpxd.addr left ≡ drop s.logpxd.addr old) ⊎ IsFreshLog s.logpxd.len s.uuid (drop s.logpxd.addr left)

-- Where the log's part failed, or memory ran out, the pages before the log are as they were: page 8 is written last, and a write takes no memory.
abbrev pub LeavesUntouched : Super → Image → BeginError → Image → Type 0
LeavesUntouched s old (errors.Disk fault) left = fault.part ≡ High → take s.logpxd.addr left ≡ take s.logpxd.addr old
LeavesUntouched s old errors.Memory left = take s.logpxd.addr left ≡ take s.logpxd.addr old
