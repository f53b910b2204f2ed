-- What a mount looked at of the maps doesn't look at the volume now, nor at the counts of a log or at the map that is shown.
use Rattle.std.proofs.Common.{ℕ}
use Rattle.jfs_commits_held.specs.volume_calls.specs.halves.specs.Half.{LogHalf, Waiting}
use Rattle.jfs_commits_held.specs.volume_calls.specs.volume.specs.bmap.specs.States.{Blocks}
use Rattle.jfs_commits_held.specs.volume_calls.specs.volume.specs.data_steps.specs.objects.specs.Volume.{Volume}
use Rattle.jfs_commits_held.specs.joined_held.specs.held.specs.Held.{Mount, Held}
use Rattle.jfs_held_maps.specs.Maps.{KeepsMaps}
use Rattle.jfs_kept_volumes.specs.Keeper.{Keeper, held_by}
use Rattle.jfs_kept_volumes.specs.Reserved.{shown_with}
use Rattle.jfs_kept_volumes.proofs.Logs.{counted_as}

pub of_volume : (m : Mount) (x : Held) (v : Volume) (volumes : ℕ → Volume) → KeepsMaps m x → KeepsMaps m (record x { volume = v; volumes = volumes })
of_volume m x v volumes keeps = record { room = keeps.room; some = keeps.some; whole = keeps.whole; extents = keeps.extents; sizes = keeps.sizes; lines = keeps.lines }

pub of_counts : (m : Mount) (x : Keeper) (v : Volume) (count taken : ℕ) (waiting : Waiting) (log : LogHalf) → KeepsMaps m (held_by x v) → KeepsMaps m (held_by (counted_as count taken waiting log x) v)
of_counts m x v count taken waiting log keeps = record { room = keeps.room; some = keeps.some; whole = keeps.whole; extents = keeps.extents; sizes = keeps.sizes; lines = keeps.lines }

pub of_shown : (m : Mount) (x : Keeper) (v : Volume) (map : Blocks) → KeepsMaps m (held_by x v) → KeepsMaps m (held_by (shown_with map x) v)
of_shown m x v map keeps = record { room = keeps.room; some = keeps.some; whole = keeps.whole; extents = keeps.extents; sizes = keeps.sizes; lines = keeps.lines }
