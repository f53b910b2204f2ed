-- What the fields of a core in memory stand for.
use Rattle.jfs_disk.specs.Pages.{contents}
use Rattle.jfs_core.specs.declared.state.CoreState.TheInside.{Inside}
use Rattle.jfs_core.specs.Core.{Core, IsInBounds}

abbrev pub core_of : Inside → Core
core_of s = record {
  mounted = contents s.mounted;
  history = s.history.items;
  taken = s.taken;
  durable = s.durable;
  told = s.told;
  grouped = s.grouped;
  syncpoints = s.syncpoints.items;
  points_taken = s.points_taken;
  points_stable = s.points_stable;
  blocks = s.slots.items;
  low_halted = s.low_halted;
  log_halted = s.log_halted;
}

abbrev pub StaysInBounds : Inside → Type 0
StaysInBounds s = IsInBounds (core_of s)
