-- The log as it really is: less of it may be stable than of a log at rest. Whatever is stable of it, the volume is held with it.
use Rattle.std.specs.Prelude.{◌≡◌, ◌⊎◌, ◌≤◌, ◌++◌, ◌∷◌, [], ℕ, List, length, Option}
use Rattle.std.specs.List.{AllByRecursion}
use Rattle.jfs_disk.specs.declared.disk.Fault.{Fault}
use Rattle.jfs_commits_held.specs.volume_calls.specs.records.specs.Entries.{Item, point}
use Rattle.jfs_commits_held.specs.volume_calls.specs.halves.specs.Half.{VolumeHalf, LogHalf, Halves, is_open}
use Rattle.jfs_commits_held.specs.volume_calls.specs.halves.specs.Parts.{Parts}
use Rattle.jfs_commits_held.specs.volume_calls.specs.volume.specs.data_steps.specs.objects.specs.Volume.{Volume}
use Rattle.jfs_commits_held.specs.joined_held.specs.held.specs.Held.{Mount, IsHeld}
use Rattle.jfs_commits_held.specs.joined_held.specs.Held.{blocks_at, held_at, IsHeldAs}
use Rattle.jfs_held_maps.specs.Maps.{KeepsMaps}
use Rattle.jfs_log_window.specs.Events.{Event, count, points_in, items_from, HasEvents, HaveEvents}
use Rattle.jfs_log_window.specs.Window.{IsOfEntry, IsLogOfHalves}
use Rattle.jfs_kept_volumes.specs.Keeper.{Keeper, held_by}
use Rattle.jfs_kept_volumes.specs.Kept.{IsHeldAtRest}

-- ---- other counts

-- both halves with another log's half
abbrev pub with_log : LogHalf → Halves → Halves
with_log log both = record both { log = log }

-- the core has its counts
abbrev pub kept_with : LogHalf → Keeper → Keeper
kept_with log x = record x { both = with_log log x.both; core = record x.core { durable = log.durable; grouped = is_open (with_log log x.both); points_stable = log.stable; points_taken = log.points_taken } }

-- What is acknowledged is durable, and what is durable was taken; and one sync count is stable at least, of those that were taken.
pub record MayBeLogOf (half : VolumeHalf) (log : LogHalf) : Type 0 where
  pub told : half.told ≤ log.durable
  pub durable : log.durable ≤ half.taken
  pub some : 1 ≤ log.stable
  pub stable : log.stable ≤ log.points_taken
  pub points : log.points_taken ≤ length half.points

-- A volume is held with any such log.
abbrev pub OtherLogLaw : Type 0
OtherLogLaw = (m : Mount) (x : Keeper) (v : Volume) (log : LogHalf) → IsHeld m (held_by x v) → MayBeLogOf x.both.volume log → IsHeld m (held_by (kept_with log x) v)

abbrev pub OtherLogAtLaw : Type 0
OtherLogAtLaw = (m : Mount) (area : ℕ → ℕ) (p : Parts) (x : Keeper) (log : LogHalf) → IsHeldAs m area p x.both x.core x.volumes → MayBeLogOf x.both.volume log
    → IsHeldAs m area p (kept_with log x).both (kept_with log x).core x.volumes

-- ---- the log as it is

-- a log of which these events are stable, and a group has taken those
abbrev pub log_with : ℕ → (stable grouped : List Event) → Option Fault → LogHalf
log_with start stable grouped halted = record {
  durable = count stable;
  stable = points_in stable;
  points_taken = points_in (stable ++ grouped);
  start = start;
  items = items_from 0 stable;
  group = items_from (count stable) grouped;
  log_halted = halted;
}

-- Events that were taken may be stable in part: the log that has a front of them, and a group with the rest, has what happened.
abbrev pub FrontLaw : Type 0
FrontLaw = (both : Halves) (stable grouped waiting front rest : List Event) (start : ℕ) (halted : Option Fault) → HasEvents both stable grouped waiting → stable ++ grouped ≡ front ++ rest → 1 ≤ length front
    → HasEvents (with_log (log_with start front rest halted) both) front rest waiting

-- A group is entries, or a SYNCPT behind some.
abbrev pub IsGroup : List Item → Type 0
IsGroup items = AllByRecursion IsOfEntry items ⊎ ((front : List Item) × AllByRecursion IsOfEntry front × (items ≡ front ++ point 0 ∷ []))

-- A log beside a volume that is kept: it has what happened, its group is one, and what is acknowledged is durable.
pub record IsLogBeside (x : Keeper) (log : LogHalf) : Type 0 where
  pub events : HaveEvents (with_log log x.both)
  pub group : IsGroup log.group
  pub told : x.both.volume.told ≤ log.durable

-- The volume is held with it, and whatever a crash leaves of it commits a window of the history.
pub record HoldsWith (m : Mount) (area : ℕ → ℕ) (p : Parts) (x : Keeper) (log : LogHalf) : Type 0 where
  pub held : IsHeldAs m area p (kept_with log x).both (kept_with log x).core x.volumes
  pub maps : KeepsMaps m (held_at (kept_with log x).both (kept_with log x).core x.volumes area p)
  pub log_is : IsLogOfHalves x.both.volume.waiting.ring (blocks_at p) (kept_with log x).both

abbrev pub BesideLaw : Type 0
BesideLaw = (m : Mount) (area : ℕ → ℕ) (p : Parts) (x : Keeper) (log : LogHalf) → IsHeldAtRest m area p x → IsLogBeside x log → HoldsWith m area p x log
