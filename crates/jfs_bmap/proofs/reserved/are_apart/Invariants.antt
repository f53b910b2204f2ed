use Rattle.std.proofs.Common.{◌≡◌, length}
use Rattle.jfs_bmap.specs.Overlap.{are_apart}
use Rattle.jfs_bmap.proofs.reserved.are_apart.Given as goal

abbrev pub invariant-loop-run : goal.invariant-loop-run
invariant-loop-run l = are_apart l.runs ≡ are_apart l.rest

abbrev pub decreases-loop-run : goal.decreases-loop-run
decreases-loop-run l = length l.rest
