-- Blocks that are reserved for a transaction, or given back.
use Rattle.std.specs.Prelude.{◌≡◌, ◌⊎◌, ℕ, length}
use Rattle.jfs_commits_held.specs.volume_calls.specs.volume.specs.bmap.specs.States.{Blocks, BlockState, Free, Reserved, state_of}
use Rattle.jfs_commits_held.specs.volume_calls.specs.halves.specs.Parts.{Parts}
use Rattle.jfs_commits_held.specs.joined_held.specs.held.specs.Held.{Mount}
use Rattle.jfs_kept_volumes.specs.Keeper.{Keeper}
use Rattle.jfs_kept_volumes.specs.Kept.{IsHeldAtRest}

-- nobody owns it, and no entry freed it that isn't acknowledged
abbrev pub IsSpare : BlockState → Type 0
IsSpare s = (s ≡ Free) ⊎ (s ≡ Reserved)

-- The maps differ at most in which of the other blocks are reserved.
pub record SameButReserved (old new : Blocks) : Type 0 where
  pub size : length new.states ≡ length old.states
  pub agsize : new.agsize ≡ old.agsize
  pub each : (b : ℕ) → (state_of new b ≡ state_of old b) ⊎ (IsSpare (state_of old b) × IsSpare (state_of new b))

-- The half shows that map.
abbrev pub shown_with : Blocks → Keeper → Keeper
shown_with map x = record x { both = record x.both { volume = record x.both.volume { shown = record x.both.volume.shown { map = map } } } }

-- So parts with such a map, and the same else, are held by the keeper that shows it.
abbrev pub ReservedLaw : Type 0
ReservedLaw = (m : Mount) (area : ℕ → ℕ) (old : Parts) (map : Blocks) (x : Keeper) → IsHeldAtRest m area old x → SameButReserved old.map map → IsHeldAtRest m area (record old { map = map }) (shown_with map x)
