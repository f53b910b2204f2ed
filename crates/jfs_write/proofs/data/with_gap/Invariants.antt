use Rattle.std.proofs.Common.{◌≡◌, ◌++◌, ◌/◌, drop}
use Rattle.jfs_write_pages.specs.Spots.{spots_between}
use Rattle.jfs_write.proofs.data.with_gap.Given as goal

abbrev pub invariant-loop-spot : goal.invariant-loop-spot
invariant-loop-spot l = l.all.items ++ drop l.spot-index l.spots ≡ spots_between (l.change.size / 4096) (l.change.offset / 4096) l.es ++ l.spots
