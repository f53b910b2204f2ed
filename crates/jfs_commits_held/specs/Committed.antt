-- A commit on a volume that is held.
use Rattle.std.specs.Bool.{⊤}
use Rattle.std.specs.Prelude.{◌≡◌, ℕ, Bool, true, List, Result}
use Rattle.std.specs.List.{AllByRecursion}
use Rattle.jfs_logpages.specs.declared.fault.LogFault.{LogFault}
use Rattle.jfs_volume_calls.specs.volume.specs.bmap.specs.States.{Busy, state_of}
use Rattle.jfs_volume_calls.specs.volume.specs.data_steps.specs.objects.specs.Volume.{Volume}
use Rattle.jfs_volume_calls.specs.volume.specs.Settles.{Settles}
use Rattle.jfs_volume_calls.specs.halves.specs.Both.{BothChange}
use Rattle.jfs_volume_calls.specs.halves.specs.Half.{Halves}
use Rattle.jfs_volume_calls.specs.halves.specs.Log.{LogParts}
use Rattle.jfs_volume_calls.specs.halves.specs.Parts.{Parts}
use Rattle.jfs_volume_calls.specs.halves.specs.declared.freed.FreedPage.{FreedPage}
use Rattle.jfs_volume_calls.specs.Commit.{CommitIs}
use Rattle.jfs_volume_calls.specs.Written.{KeepsPages}
use Rattle.jfs_joined_held.specs.held.specs.survival.specs.recovery.specs.Core.{Core}
use Rattle.jfs_joined_held.specs.held.specs.Held.{Mount}
use Rattle.jfs_joined_held.specs.held.specs.Changes.{leaving, after, AllMay}
use Rattle.jfs_joined_held.specs.Held.{volume_at, held_at, IsHeldAs}

-- The block of each page that an entry freed is busy for that entry.
abbrev pub AreBusy : Parts → Type 0
AreBusy p = AllByRecursion (λ (f : FreedPage). state_of p.map f.page ≡ Busy f.by_entry) p.freed

-- Changes that leave the volume may be made, one after the other, and it is held by the parts after them.
pub record IsRunOfCommit (m : Mount) (area : ℕ → ℕ) (old new : Parts) (both : Halves) (core : Core) (volumes : ℕ → Volume) : Type 0 where
  pub list : List BothChange
  pub may : AllMay m (held_at both core volumes area old) (leaving (volume_at area old) list)
  pub held : IsHeldAs m area new (after m (held_at both core volumes area old) (leaving (volume_at area old) list)).both (after m (held_at both core volumes area old) (leaving (volume_at area old) list)).core
      (after m (held_at both core volumes area old) (leaving (volume_at area old) list)).volumes

abbrev pub CommitLaw : Type 0
CommitLaw = (m : Mount) (area : ℕ → ℕ) (asked : Bool) (old new : Parts) (log : LogParts) (both : Halves) (core : Core) (volumes : ℕ → Volume) (result : Result (Unit {0}) LogFault)
    → IsHeldAs m area old both core volumes → AreBusy old → CommitIs true asked old new log both result → Settles old new → KeepsPages ⊤ old new → IsRunOfCommit m area old new both core volumes
