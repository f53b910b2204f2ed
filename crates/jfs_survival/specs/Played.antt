-- What a change of a mounted volume's halves is in the core of log redo, and what it has to keep for that beside fitting.
use Rattle.std.specs.Prelude.{◌≡◌, ◌⊎◌, ◌≤◌, ℕ, Bool, true, false, if◌then◌else◌, List, [], ◌∷◌, ◌++◌, length, IsSome}
use Rattle.jfs_ranges.specs.Apply.{touches_tx}
use Rattle.jfs_face.specs.recovery.specs.crash_core.specs.Step.{EndsBy, IsSynced}
use Rattle.jfs_logged.specs.halves.specs.Entry.{Happened, edits}
use Rattle.jfs_logged.specs.halves.specs.Half.{Halves, page_in, is_open}
use Rattle.jfs_logged.specs.halves.specs.Change.{Enters, Takes, Tells, HandsOut, GoesHome, Tears, Drops, Writes, WriteTears, Stops, LogStops, Syncs, Points, Knows}
use Rattle.jfs_logged.specs.halves.specs.Both.{BothChange, Changes, GroupIsWritten, GroupFails, changed}
use Rattle.jfs_face.specs.recovery.specs.Face.{Face, Pages}
use Rattle.jfs_face.specs.recovery.specs.Core.{Core, Step, count, image, matters_at, owner_at, told_page, MayAppend, MayWrite, after_steps}
use Rattle.jfs_face.specs.recovery.specs.Core.Step.{Write, WriteFails, Append, Take, GroupWrite, Told, Home, HomeFails, LowSync, SyncPoint}

-- An entry with its image after it: an append that the core allows, which touches no page past the volume's part of the disk, and has no line of a map's page.
pub record Joins (f : Face) (both : Halves) (core : Core) (h : Happened) (t : Pages) : Type 0 where
  pub may : MayAppend f core (edits h) t
  pub within : (p : ℕ) → length both.volume.blocks ≤ p → f.touches (image core (count core)) (edits h) p ≡ false
  pub no_maps : (p : ℕ) → f.is_map p ≡ true → touches_tx p (edits h) ≡ false

-- a page that matters
abbrev pub Matters : Face → Core → ℕ → Type 0
Matters f core p = matters_at f core p (count core) ≡ true

-- the block is data of a regular file, or has no owner and isn't busy
abbrev pub IsFree : Face → Core → ℕ → Type 0
IsFree f core p = MayWrite (owner_at f core p) core.told (count core)

-- such a block gets a whole page
pub record IsData (f : Face) (core : Core) (p : ℕ) (bytes : List ℕ) : Type 0 where
  pub size : length bytes ≡ 4096
  pub may : IsFree f core p

-- a page of a map that entries changed, all of them acknowledged, with its bytes after these
pub record IsMapHome (f : Face) (core : Core) (p : ℕ) (bytes : List ℕ) : Type 0 where
  pub is_map : f.is_map p ≡ true
  pub dirty : IsSome (core.slots p).block.dirty
  pub told : EndsBy core.told (core.slots p).block.dirty
  pub bytes_are : bytes ≡ told_page core p

-- no page of a map waits to go home or to be synced
abbrev pub MapsAreSynced : Face → Core → Type 0
MapsAreSynced f core = (p : ℕ) → f.is_map p ≡ true → IsSynced (count core) (core.slots p).block

abbrev pub step_if : Bool → Step → List Step
step_if happens step = if happens then step ∷ [] else []

-- the change is these steps
abbrev pub IsPlayed : Face → Halves → Core → BothChange → List Step → Type 0
IsPlayed f both core (Changes (Enters h)) list = (t : Pages) × Joins f both core h t × (list ≡ Append (edits h) t ∷ [])
IsPlayed f both core (Changes Takes) list = list ≡ step_if (is_open (changed both (Changes Takes))) Take
IsPlayed f both core (Changes (Tells n)) list = list ≡ Told ∷ []
IsPlayed f both core (Changes HandsOut) list = list ≡ []
-- a page that matters; or one that was freed, which the core dropped as that was acknowledged, and where the half may write what it likes
IsPlayed f both core (Changes (GoesHome p)) list = (Matters f core p × (list ≡ Home p ∷ [])) ⊎ (IsFree f core p × (list ≡ Write p (page_in both.volume p) ∷ []))
IsPlayed f both core (Changes (Tears p sectors fault)) list = (Matters f core p × (list ≡ HomeFails p sectors ∷ [])) ⊎ (IsFree f core p × (list ≡ WriteFails p (page_in both.volume p) sectors ∷ []))
IsPlayed f both core (Changes (Drops p)) list = list ≡ []
IsPlayed f both core (Changes (Writes p bytes)) list = (IsData f core p bytes × (list ≡ Write p bytes ∷ [])) ⊎ (IsMapHome f core p bytes × (list ≡ Home p ∷ []))
IsPlayed f both core (Changes (WriteTears p bytes sectors fault)) list =
    (IsData f core p bytes × (list ≡ WriteFails p bytes sectors ∷ [])) ⊎ (IsMapHome f core p bytes × (list ≡ HomeFails p sectors ∷ []))
IsPlayed f both core (Changes (Stops fault)) list = list ≡ []
IsPlayed f both core (Changes (LogStops fault)) list = list ≡ []
IsPlayed f both core (Changes Syncs) list = list ≡ LowSync ∷ []
IsPlayed f both core (Changes Points) list = MapsAreSynced f core × (list ≡ SyncPoint (length both.volume.history) ∷ [])
IsPlayed f both core (Changes Knows) list = list ≡ []
IsPlayed f both core GroupIsWritten list = list ≡ GroupWrite ∷ []
IsPlayed f both core (GroupFails fault) list = list ≡ []

-- changes, one after another
abbrev pub ArePlayed : Face → Halves → Core → List BothChange → List Step → Type 0
ArePlayed f both core [] list = list ≡ []
ArePlayed f both core (c ∷ cs) list = (own : List Step) × (rest : List Step) × (list ≡ own ++ rest) × IsPlayed f both core c own × ArePlayed f (changed both c) (after_steps f core own) cs rest
