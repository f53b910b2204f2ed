-- What keeps a mounted volume between calls, and how it grows.
use Rattle.std.specs.Prelude.{◌≡◌, ◌≤◌, ◌++◌, ℕ, true, List, length}
use Rattle.jfs_commits_held.specs.volume_calls.specs.halves.specs.Entry.{Happened}
use Rattle.jfs_commits_held.specs.volume_calls.specs.halves.specs.Half.{Halves}
use Rattle.jfs_commits_held.specs.volume_calls.specs.halves.specs.Parts.{Parts}
use Rattle.jfs_commits_held.specs.volume_calls.specs.volume.specs.data_steps.specs.objects.specs.Volume.{Volume}
use Rattle.jfs_commits_held.specs.joined_held.specs.held.specs.survival.specs.recovery.specs.Core.{Core}
use Rattle.jfs_commits_held.specs.joined_held.specs.held.specs.survival.specs.face.specs.Places.{is_map_page}
use Rattle.jfs_commits_held.specs.joined_held.specs.held.specs.Held.{Mount, Held}
use Rattle.jfs_commits_held.specs.joined_held.specs.held.specs.Changes.{Made, after}
use Rattle.jfs_commits_held.specs.joined_held.specs.Held.{held_at}

-- Its halves, where a group is stable as soon as it is taken; the core of log redo; and the volume after so many entries. What a log has made stable so far is less: Logs.antt says how each such log is held by the same.
pub record Keeper : Type 0 where
  pub both : Halves
  pub core : Core
  pub volumes : ℕ → Volume

-- the same with the volume now
abbrev pub held_by : Keeper → Volume → Held
held_by x v = record { both = x.both; core = x.core; volume = v; volumes = x.volumes }

-- after changes of a volume with these parts
abbrev pub kept_after : Mount → (ℕ → ℕ) → Parts → Keeper → List Made → Keeper
kept_after m area p x ds = let y = after m (held_at x.both x.core x.volumes area p) ds in record { both = y.both; core = y.core; volumes = y.volumes }

-- These entries joined, and these sync counts were made; what was stays, and so does what was mounted.
pub record GrowsBy (hs : List Happened) (points : List ℕ) (x y : Keeper) : Type 0 where
  pub history : y.both.volume.history ≡ x.both.volume.history ++ hs
  pub points_are : y.both.volume.points ≡ x.both.volume.points ++ points
  pub volumes : (k : ℕ) → k ≤ length x.both.volume.history → y.volumes k ≡ x.volumes k
  pub mounted : y.core.mounted ≡ x.core.mounted
