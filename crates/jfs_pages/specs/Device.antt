-- What a call of the cache does to the disk, and when it may say that the disk failed.
use Rattle.std.specs.Prelude.{◌≡◌, ◌<◌, ◌≤◌, ◌++◌, ℕ, List, [], ◌∷◌, set, Result, Ok, Err}
use Rattle.jfs_bits.specs.Count.{Rose}
use Rattle.jfs_disk.specs.Image.{Image}
use Rattle.jfs_disk.specs.Crash.{DiskState, last_of, written, settled, TearsPage, LeavesTorn}
use Rattle.jfs_disk.specs.declared.disk.Fault.{Fault}
use Rattle.jfs_disk.specs.declared.disk.Part.TheVariants.{Low}
use Rattle.jfs_ranges.specs.declared.view.ViewError.{ViewError}
use Rattle.jfs_ranges.specs.declared.view.ViewError.TheVariants.{Read, Memory}
use Rattle.jfs_pages.specs.declared.error.HomeError.{HomeError}
use Rattle.jfs_pages.specs.declared.error.HomeError.TheVariants.{NotYet, WriteFault}

-- the device failed: its count rose, to the fault's
pub record IsFault (before now : ℕ) (fault : Fault) : Type 0 where
  pub rose : Rose before now
  pub is : fault ≡ record { part = Low; count = now }

-- the count rises with a fault alone
abbrev pub HasFault : {T : Type 0} → ℕ → ℕ → Result T Fault → Type 0
HasFault before now (Ok done) = now ≡ before
HasFault before now (Err fault) = IsFault before now fault

-- a page was read, or the device failed, or memory ran out
abbrev pub HasReadFault : {T : Type 0} → ℕ → ℕ → Result T ViewError → Type 0
HasReadFault before now (Ok page) = now ≡ before
HasReadFault before now (Err (Read fault)) = IsFault before now fault
HasReadFault before now (Err Memory) = now ≡ before

-- A page goes home where its last entry is at most `told`, and else it isn't time yet. Where it is time, a fault alone keeps it.
abbrev pub GoesHome : {T : Type 0} → ℕ → ℕ → ℕ → ℕ → Result T HomeError → Type 0
GoesHome last told before now (Ok done) = (last ≤ told) × (now ≡ before)
GoesHome last told before now (Err (NotYet lsn n)) = (told < last) × (lsn ≡ last) × (n ≡ told) × (now ≡ before)
GoesHome last told before now (Err (WriteFault fault)) = (last ≤ told) × IsFault before now fault

-- Below, a disk gives `old` and then `new`, and its states are `past` and then `later`.

-- page n was written, and no other
pub record IsWritten (tells tells_crashes : Type 0) (n : ℕ) (bytes : List ℕ) (old new : Image) (past later : List DiskState) : Type 0 where
  pub image : tells → new ≡ set old n bytes
  pub states : tells_crashes → later ≡ past ++ written n bytes (last_of past) ∷ []

-- a write of page n failed: a read gives some of its front sectors and the rest of the old ones, and the write is pending
pub record IsTorn (tells tells_crashes : Type 0) (n : ℕ) (bytes : List ℕ) (old new : Image) (past later : List DiskState) : Type 0 where
  pub image : tells → TearsPage n bytes old new
  pub states : tells_crashes → LeavesTorn n bytes past later

-- a read gives what it gave, and a crash leaves what it left
pub record IsSame (tells tells_crashes : Type 0) (old new : Image) (past later : List DiskState) : Type 0 where
  pub image : tells → new ≡ old
  pub states : tells_crashes → later ≡ past

-- what a read gives is stable; where the sync failed, all is as it was
abbrev pub Syncs : {T : Type 0} → Type 0 → Type 0 → Image → Image → List DiskState → List DiskState → Result T Fault → Type 0
Syncs tells tells_crashes old new past later (Ok done) = (tells → new ≡ old) × (tells_crashes → later ≡ past ++ settled (last_of past) ∷ [])
Syncs tells tells_crashes old new past later (Err fault) = IsSame tells tells_crashes old new past later

-- what a write of page n does to the disk, at Ok and after a fault
abbrev pub Puts : {T : Type 0} → Type 0 → Type 0 → ℕ → List ℕ → Image → Image → List DiskState → List DiskState → Result T Fault → Type 0
Puts tells tells_crashes n bytes old new past later (Ok done) = IsWritten tells tells_crashes n bytes old new past later
Puts tells tells_crashes n bytes old new past later (Err fault) = IsTorn tells tells_crashes n bytes old new past later

-- what page n does to the disk as it goes home: where it isn't time yet, nothing
abbrev pub SendsHome : {T : Type 0} → Type 0 → Type 0 → ℕ → List ℕ → Image → Image → List DiskState → List DiskState → Result T HomeError → Type 0
SendsHome tells tells_crashes n bytes old new past later (Ok done) = IsWritten tells tells_crashes n bytes old new past later
SendsHome tells tells_crashes n bytes old new past later (Err (NotYet lsn told)) = IsSame tells tells_crashes old new past later
SendsHome tells tells_crashes n bytes old new past later (Err (WriteFault fault)) = IsTorn tells tells_crashes n bytes old new past later
