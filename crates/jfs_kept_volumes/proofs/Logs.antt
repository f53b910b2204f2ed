-- A volume is held whatever of its log is stable, and whatever a group has taken.
use Rattle.std.proofs.Common.{◌≡◌, ℕ, List, length, refl, ap, arith}
use Rattle.jfs_commits_held.specs.volume_calls.specs.halves.specs.Half.{LogHalf, Halves, Waiting, is_open}
use Rattle.jfs_commits_held.specs.volume_calls.specs.volume.specs.data_steps.specs.objects.specs.Volume.{Volume}
use Rattle.jfs_commits_held.specs.joined_held.specs.held.specs.survival.specs.recovery.specs.Core.{count}
use Rattle.jfs_commits_held.specs.joined_held.specs.held.specs.survival.specs.recovery.specs.Sound.{MayCount}
use Rattle.jfs_commits_held.specs.joined_held.specs.held.specs.survival.specs.recovery.proofs.Parts.{any_counts}
use Rattle.jfs_commits_held.specs.joined_held.specs.held.specs.Held.{Mount, IsHeld, face_at}
use Rattle.jfs_kept_volumes.specs.Keeper.{Keeper, held_by}
use Rattle.jfs_kept_volumes.specs.Logs.{MayBeLogOf, OtherLogLaw, OtherLogAtLaw, BesideLaw}
use Rattle.jfs_kept_volumes.proofs.Beside.{log_is, may_be}

-- these counts of what was taken, by the core and by the half, and of what is stable
abbrev pub counted_as : (count taken : ℕ) → Waiting → LogHalf → Keeper → Keeper
counted_as count taken waiting log x = let both : Halves = record { volume = record x.both.volume { taken = taken; waiting = waiting }; log = log } in
    record x { both = both; core = record x.core { taken = count; durable = log.durable; grouped = is_open both; points_stable = log.stable; points_taken = log.points_taken } }

module _ (m : Mount) (x : Keeper) (v : Volume) (held : IsHeld m (held_by x v)) where
  pub held_as : (count taken : ℕ) (waiting : Waiting) (log : LogHalf) → count ≡ taken → MayCount x.core log.durable count log.stable log.points_taken → IsHeld m (held_by (counted_as count taken waiting log x) v)
  held_as count taken waiting log same may = record {
    fits = held.fits;
    core_is = record {
      sound = any_counts (face_at m) x.core held.core_is.sound log.durable count log.stable log.points_taken (counted_as count taken waiting log x).core.grouped may;
      history = held.core_is.history;
      taken = same;
      durable = refl;
      told = held.core_is.told;
      grouped = refl;
      syncpoints = held.core_is.syncpoints;
      points_taken = refl;
      points_stable = refl;
      number = held.core_is.number;
      each = held.core_is.each;
      past = held.core_is.past;
    };
    states = record { owned = held.states.owned; busy = held.states.busy };
    images = held.images;
    now = held.now;
    mapped = held.mapped;
    maps_within = held.maps_within;
  }

  pub counts : (log : LogHalf) → MayBeLogOf x.both.volume log → MayCount x.core log.durable x.core.taken log.stable log.points_taken
  counts log may = record {
    told_durable = (let a = held.core_is.told in let b = may.told in omega (arith, a, b));
    durable_taken = (let a = held.core_is.taken in let b = may.durable in omega (arith, a, b));
    taken_there = held.core_is.sound.counts.taken_appended;
    some = may.some;
    stable_taken = may.stable;
    points_there = (let a = ap (λ (l : List ℕ). length l) held.core_is.syncpoints in let b = may.points in omega (arith, a, b));
  }

pub other_log_law : OtherLogLaw
other_log_law m x v log held may = held_as m x v held x.core.taken x.both.volume.taken x.both.volume.waiting log held.core_is.taken (counts m x v held log may)

pub other_log_at_law : OtherLogAtLaw
other_log_at_law m area p x log held may = record {
  held = other_log_law m x _ log held.held may;
  readers_are = held.readers_are;
  blocks = held.blocks;
  extents = held.extents;
  within = held.within;
}
