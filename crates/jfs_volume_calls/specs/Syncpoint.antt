-- What a syncpoint changes.
use Rattle.std.specs.Prelude.{◌≡◌, ◌⊎◌, ◌++◌, ◌∷◌, [], ℕ, Bool, List, map, length, Result, Ok, Err}
use Rattle.jfs_bits.specs.Count.{Rose}
use Rattle.jfs_disk.specs.declared.disk.Fault.{Fault}
use Rattle.jfs_disk.specs.declared.disk.Part.TheVariants.{Low, High}
use Rattle.jfs_volume.specs.halves.specs.Half.{Halves}
use Rattle.jfs_volume.specs.halves.specs.Parts.{Parts}
use Rattle.jfs_volume.specs.halves.specs.Log.{LogParts}
use Rattle.jfs_volume.specs.halves.specs.Change.{Change, Takes, Stops, Syncs, Points, Knows}
use Rattle.jfs_volume.specs.halves.specs.Both.{BothChange, Changes, GroupIsWritten, GroupFails}
use Rattle.jfs_volume.specs.halves.specs.Moves.{MovesBoth}
use Rattle.jfs_volume.specs.data_steps.specs.declared.pages.DataPage.{DataPage}
use Rattle.jfs_volume.specs.MapsHome.{stale_pages, ArePagesOf, AreFirstOf}
use Rattle.jfs_volume.specs.Settle.{go_home, IsStop}
use Rattle.jfs_volume.specs.Written.{writes, IsWriteStop}
use Rattle.jfs_volume_calls.specs.Commit.{Closes, IsWritten, committing}

-- redo begins behind all entries, and a group with the SYNCPT that says so is taken
abbrev pub point_taken : List BothChange
point_taken = Changes Points ∷ Changes Takes ∷ []

-- that group is written, and the volume knows that all sync counts are stable
abbrev pub point_known : List BothChange
point_known = GroupIsWritten ∷ Changes Knows ∷ []

-- dirty pages go home, and pages of the maps are written
abbrev pub homing : List ℕ → List DataPage → List Change
homing homes maps = go_home homes ++ writes maps

-- and are synced
abbrev pub settling : List ℕ → List DataPage → List BothChange
settling homes maps = map Changes (homing homes maps ++ Syncs ∷ [])

-- The pages of the maps that are written are those of each map that had changed before, as the maps are then: a commit changes which blocks are busy, and not which have an owner.
abbrev pub AreMapPages : Parts → Parts → List DataPage → Type 0
AreMapPages old new maps = ArePagesOf new.map new.inodes (stale_pages (length old.map.states) old.files) maps

abbrev pub AreFirstMapPages : Parts → Parts → List DataPage → Type 0
AreFirstMapPages old new maps = AreFirstOf new.map new.inodes (stale_pages (length old.map.states) old.files) maps

-- Where a call of it failed, a syncpoint has made a front of its changes: its group failed; or the write of a dirty page; or that of a page of a map; or the sync; or the group of its SYNCPT.
pub data IsStopped (old new : Parts) (n : ℕ) (fault : Fault) : List BothChange → Type 0 where
  group_fails : IsStopped old new n fault (Changes Takes ∷ GroupFails fault ∷ [])
  low_fails : (written : List BothChange) (pages homes : List ℕ) (last : Change) → IsWritten written → IsStop fault last → IsStopped old new n fault (committing written n pages ++ map Changes (go_home homes ++ last ∷ []))
  maps_fail : (written : List BothChange) (pages homes : List ℕ) (front : List DataPage) (next : DataPage) (last : Change) → IsWritten written → AreFirstMapPages old new (front ++ next ∷ []) → IsWriteStop fault next last →
      IsStopped old new n fault (committing written n pages ++ map Changes (homing homes front ++ last ∷ []))
  sync_fails : (written : List BothChange) (pages homes : List ℕ) (maps : List DataPage) → IsWritten written → AreMapPages old new maps → IsStopped old new n fault (committing written n pages ++ map Changes (homing homes maps ++ Stops fault ∷ []))
  point_fails : (written : List BothChange) (pages homes : List ℕ) (maps : List DataPage) → IsWritten written → AreMapPages old new maps → IsStopped old new n fault (committing written n pages ++ (settling homes maps ++ (point_taken ++ GroupFails fault ∷ [])))

pub record IsSyncpoint (seen asked : Bool) (old new : Parts) (log : LogParts) (both : Halves) : Type 0 where
  pub written : List BothChange
  pub is : IsWritten written
  pub pages : List ℕ
  pub homes : List ℕ
  pub maps : List DataPage
  pub maps_are : AreMapPages old new maps
  pub closes : Closes seen asked old new log both (committing written (length both.volume.history) pages ++ (settling homes maps ++ (point_taken ++ point_known)))

abbrev pub SyncpointIs : (seen asked : Bool) → Parts → Parts → LogParts → Halves → Result (Unit {0}) Fault → Type 0
SyncpointIs seen asked old new log both (Ok done) = IsSyncpoint seen asked old new log both
SyncpointIs seen asked old new log both (Err fault) = (list : List BothChange) × IsStopped old new (length both.volume.history) fault list × MovesBoth seen asked old new log both list

-- the group of a SYNCPT
abbrev pub PointIs : (seen asked : Bool) → Parts → Parts → LogParts → Halves → Result (Unit {0}) Fault → Type 0
PointIs seen asked old new log both (Ok done) = Closes seen asked old new log both (point_taken ++ point_known)
PointIs seen asked old new log both (Err fault) = MovesBoth seen asked old new log both (point_taken ++ GroupFails fault ∷ [])

-- the log's fault, whose count rose
abbrev pub HasPointFault : ℕ → ℕ → Result (Unit {0}) Fault → Type 0
HasPointFault high later (Ok done) = later ≡ high
HasPointFault high later (Err fault) = Rose high later × (fault ≡ record { part = High; count = later })

-- a fault is of the part whose count rose; the other one's count stays
abbrev pub IsFaultOfEither : ℕ → ℕ → ℕ → ℕ → Fault → Type 0
IsFaultOfEither low now high later fault =
    (Rose low now × (fault ≡ record { part = Low; count = now }) × (later ≡ high)) ⊎ (Rose high later × (fault ≡ record { part = High; count = later }) × (now ≡ low))

abbrev pub HasFaultOfEither : ℕ → ℕ → ℕ → ℕ → Result (Unit {0}) Fault → Type 0
HasFaultOfEither low now high later (Ok done) = (now ≡ low) × (later ≡ high)
HasFaultOfEither low now high later (Err fault) = IsFaultOfEither low now high later fault
