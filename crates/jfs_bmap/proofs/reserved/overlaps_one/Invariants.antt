use Rattle.std.proofs.Common.{◌≡◌, length}
use Rattle.jfs_bmap.specs.Overlap.{overlaps_one}
use Rattle.jfs_bmap.proofs.reserved.overlaps_one.Given as goal

abbrev pub invariant-loop-other : goal.invariant-loop-other
invariant-loop-other l = overlaps_one l.run l.others ≡ overlaps_one l.run l.rest

abbrev pub decreases-loop-other : goal.decreases-loop-other
decreases-loop-other l = length l.rest
