-- What a commit changes.
use Rattle.std.specs.Prelude.{◌≡◌, ◌⊎◌, ◌++◌, ◌∷◌, [], ℕ, Bool, List, map, length, Result, Ok, Err}
use Rattle.jfs_bits.specs.Count.{Rose}
use Rattle.jfs_disk.specs.declared.disk.Part.TheVariants.{High}
use Rattle.jfs_logpages.specs.declared.fault.LogFault.{LogFault}
use Rattle.jfs_volume.specs.halves.specs.Half.{Halves}
use Rattle.jfs_volume.specs.halves.specs.Parts.{Parts}
use Rattle.jfs_volume.specs.halves.specs.Log.{LogParts}
use Rattle.jfs_volume.specs.halves.specs.Change.{Takes, Tells}
use Rattle.jfs_volume.specs.halves.specs.Both.{BothChange, Changes, GroupIsWritten, GroupFails, after}
use Rattle.jfs_volume.specs.halves.specs.Moves.{MovesBoth}
use Rattle.jfs_volume.specs.Told.{drops}
use Rattle.jfs_volume_calls.specs.Together.{NoGroup}

-- changes that leave no group open
pub record Closes (seen asked : Bool) (old new : Parts) (log : LogParts) (both : Halves) (list : List BothChange) : Type 0 where
  pub moves : MovesBoth seen asked old new log both list
  pub closed : NoGroup (after both list)

-- a group takes all that waits, and is written and stable
abbrev pub group : List BothChange
group = Changes Takes ∷ GroupIsWritten ∷ []

abbrev pub GroupIs : (seen asked : Bool) → Parts → Parts → LogParts → Halves → Result (Unit {0}) LogFault → Type 0
GroupIs seen asked old new log both (Ok done) = Closes seen asked old new log both group
GroupIs seen asked old new log both (Err why) = MovesBoth seen asked old new log both (Changes Takes ∷ GroupFails why.fault ∷ [])

-- a group is written, or none where groups had taken all
abbrev pub IsWritten : List BothChange → Type 0
IsWritten written = (written ≡ []) ⊎ (written ≡ group)

pub record MayBeWritten (seen asked : Bool) (old new : Parts) (log : LogParts) (both : Halves) : Type 0 where
  pub written : List BothChange
  pub is : IsWritten written
  pub closes : Closes seen asked old new log both written

abbrev pub WriteIs : (seen asked : Bool) → Parts → Parts → LogParts → Halves → Result (Unit {0}) LogFault → Type 0
WriteIs seen asked old new log both (Ok done) = MayBeWritten seen asked old new log both
WriteIs seen asked old new log both (Err why) = MovesBoth seen asked old new log both (Changes Takes ∷ GroupFails why.fault ∷ [])

-- What was written; then all entries so far are acknowledged, and pages that they freed are dropped.
abbrev pub committing : List BothChange → ℕ → List ℕ → List BothChange
committing written n pages = written ++ Changes (Tells n) ∷ map Changes (drops pages)

pub record IsCommitted (seen asked : Bool) (old new : Parts) (log : LogParts) (both : Halves) : Type 0 where
  pub written : List BothChange
  pub is : IsWritten written
  pub pages : List ℕ
  pub closes : Closes seen asked old new log both (committing written (length both.volume.history) pages)

abbrev pub CommitIs : (seen asked : Bool) → Parts → Parts → LogParts → Halves → Result (Unit {0}) LogFault → Type 0
CommitIs seen asked old new log both (Ok done) = IsCommitted seen asked old new log both
CommitIs seen asked old new log both (Err why) = MovesBoth seen asked old new log both (Changes Takes ∷ GroupFails why.fault ∷ [])

-- the log's count of faults rises with a fault of it alone
abbrev pub HasLogFault : ℕ → ℕ → Result (Unit {0}) LogFault → Type 0
HasLogFault before now (Ok done) = now ≡ before
HasLogFault before now (Err why) = Rose before now × (why.fault ≡ record { part = High; count = now })
