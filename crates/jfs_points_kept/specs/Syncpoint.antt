-- A syncpoint as a whole.
use Rattle.std.specs.Prelude.{◌≡◌, ℕ, Bool, true, List, None, Result}
use Rattle.jfs_disk.specs.declared.disk.Fault.{Fault}
use Rattle.jfs_kept_volumes.specs.commits_held.specs.volume_calls.specs.Syncpoint.{SyncpointIs}
use Rattle.jfs_kept_volumes.specs.commits_held.specs.volume_calls.specs.halves.specs.Both.{BothChange}
use Rattle.jfs_kept_volumes.specs.commits_held.specs.volume_calls.specs.halves.specs.Half.{Halves}
use Rattle.jfs_kept_volumes.specs.commits_held.specs.volume_calls.specs.halves.specs.Log.{LogParts}
use Rattle.jfs_kept_volumes.specs.commits_held.specs.volume_calls.specs.halves.specs.Moves.{MovesBoth}
use Rattle.jfs_kept_volumes.specs.commits_held.specs.volume_calls.specs.halves.specs.Parts.{Parts}
use Rattle.jfs_kept_volumes.specs.commits_held.specs.volume_calls.specs.volume.specs.Settles.{Settles}
use Rattle.jfs_kept_volumes.specs.commits_held.specs.volume_calls.specs.volume.specs.data_steps.specs.objects.specs.Volume.{Volume}
use Rattle.jfs_kept_volumes.specs.pages_held.specs.Pages.{PagesKept}
use Rattle.jfs_kept_volumes.specs.pages_held.specs.joined_held.specs.Held.{volume_at, held_at, IsHeldAs}
use Rattle.jfs_kept_volumes.specs.pages_held.specs.joined_held.specs.held.specs.Changes.{leaving, AllMay}
use Rattle.jfs_kept_volumes.specs.pages_held.specs.joined_held.specs.held.specs.Held.{Mount}
use Rattle.jfs_kept_volumes.specs.pages_held.specs.joined_held.specs.held.specs.survival.specs.recovery.specs.Core.{Core}

-- Its changes may be made, one after the other: so whatever a crash leaves at any moment of it is known.
pub record IsRunOfSyncpoint (m : Mount) (area : ℕ → ℕ) (asked : Bool) (old new : Parts) (log : LogParts) (both : Halves) (core : Core) (volumes : ℕ → Volume) : Type 0 where
  pub list : List BothChange
  pub moves : MovesBoth true asked old new log both list
  pub may : AllMay m (held_at both core volumes area old) (leaving (volume_at area old) list)

-- So it is on a volume that is held, whose pages are kept, done and failed. (By the clauses of `syncpoint`.)
abbrev pub SyncpointLaw : Type 0
SyncpointLaw = (m : Mount) (area : ℕ → ℕ) (asked : Bool) (old new : Parts) (log : LogParts) (both : Halves) (core : Core) (volumes : ℕ → Volume) (result : Result (Unit {0}) Fault)
    → IsHeldAs m area old both core volumes → PagesKept m area old both core → old.halted ≡ None → SyncpointIs true asked old new log both result → Settles old new
    → IsRunOfSyncpoint m area asked old new log both core volumes
