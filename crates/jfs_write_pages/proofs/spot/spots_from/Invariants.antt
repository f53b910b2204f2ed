use Rattle.std.proofs.Common.{◌≡◌, ◌+◌, ◌-◌, ◌++◌}
use Rattle.jfs_write_pages.specs.Spots.{spots_from}
use Rattle.jfs_write_pages.proofs.spot.spots_from.Given as goal

abbrev pub invariant-loop-i : goal.invariant-loop-i
invariant-loop-i l = l.spots.items ++ spots_from l.es (l.first + l.i) (l.count - l.i) ≡ spots_from l.es l.first l.count
