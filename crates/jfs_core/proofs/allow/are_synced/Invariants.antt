use Rattle.std.proofs.Common.{◌≡◌, drop}
use Rattle.jfs_core.specs.Decision.{are_synced}
use Rattle.jfs_core.proofs.allow.are_synced.Given as goal

abbrev pub invariant-loop-slot : goal.invariant-loop-slot
invariant-loop-slot l = are_synced l.n (drop l.slot-index l.slots) ≡ are_synced l.n l.slots
