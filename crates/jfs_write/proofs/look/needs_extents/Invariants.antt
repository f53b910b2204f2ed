use Rattle.std.proofs.Common.{◌≡◌, drop}
use Rattle.jfs_write.specs.Look.{needs_extents}
use Rattle.jfs_write.proofs.look.needs_extents.Given as goal

abbrev pub invariant-loop-spot : goal.invariant-loop-spot
invariant-loop-spot l = needs_extents (drop l.spot-index l.spots) ≡ needs_extents l.spots
