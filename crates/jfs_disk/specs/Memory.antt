-- A disk in memory, as its clauses see it.
use Rattle.std.specs.Prelude.{◌≡◌, ◌⊎◌, ℕ, Bool, List, [], ◌∷◌, ◌++◌}
use Rattle.jfs_disk.specs.Image.{Image}
use Rattle.jfs_disk.specs.Crash.{DiskState, seen_of, last_of, failed}
use Rattle.jfs_bits.specs.Count.{Rose}
use Rattle.jfs_disk.specs.Plan.{fails_next}
use Rattle.jfs_disk.specs.Store.{past_in}
use Rattle.jfs_disk.specs.declared.disk.Part.{Part}
use Rattle.jfs_disk.specs.declared.plan.Kind.{Kind}
use Rattle.jfs_disk.specs.declared.plan.Fail.{Fail}
use Rattle.jfs_disk.specs.declared.plan.Tally.{Tally}
use Rattle.jfs_disk.specs.declared.memory.MemDisk.{MemDisk}

abbrev pub page_count_of : MemDisk → ℕ
page_count_of disk = disk.store.count

abbrev pub past_of_disk : MemDisk → List DiskState
past_of_disk disk = past_in disk.store

-- what a read gives
abbrev pub image_of_disk : MemDisk → Image
image_of_disk disk = seen_of (last_of (past_of_disk disk))

abbrev pub fault_count_of : MemDisk → ℕ
fault_count_of disk = disk.faults

abbrev pub part_of : MemDisk → Part
part_of disk = disk.plan.part

abbrev pub fails_of : MemDisk → List Fail
fails_of disk = disk.plan.fails.items

-- how many calls there were
abbrev pub tally_of : MemDisk → Tally
tally_of disk = disk.plan.tally

-- how many pages the disk can have when another is joined to it
abbrev pub room_of : MemDisk → ℕ
room_of disk = disk.store.room

-- how many writes that failed found no memory to be pending
abbrev pub lost_writes_of : MemDisk → ℕ
lost_writes_of disk = disk.lost_writes

-- whether the next call of a kind fails by one of the fails
abbrev pub will_fail : Kind → MemDisk → Bool
will_fail kind disk = fails_next (fails_of disk) (part_of disk) kind (tally_of disk)

-- A write that was planned to fail is pending. Where it finds no memory, the disk is as it was, and counts that.
abbrev pub LeavesTrace : ℕ → List ℕ → MemDisk → MemDisk → Type 0
LeavesTrace n bytes old new =
    ((past_of_disk new ≡ past_of_disk old ++ failed n bytes 0 (last_of (past_of_disk old)) ∷ []) × (lost_writes_of new ≡ lost_writes_of old))
    ⊎ ((past_of_disk new ≡ past_of_disk old) × Rose (lost_writes_of old) (lost_writes_of new))
