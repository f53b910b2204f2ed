use Rattle.jfs_bmap.proofs.Reservations.{Reserving}
use Rattle.jfs_bmap.proofs.block_map.BlockMap.reserve_runs.Given as goal

abbrev pub invariant-loop-left : goal.invariant-loop-left
invariant-loop-left l = Reserving l.fn.self l.self l.hint l.n l.left l.list

abbrev pub decreases-loop-left : goal.decreases-loop-left
decreases-loop-left l = l.left
