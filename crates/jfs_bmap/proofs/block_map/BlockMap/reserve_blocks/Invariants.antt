use Rattle.jfs_bmap.proofs.LowestBlocks.{ReservingEach}
use Rattle.jfs_bmap.proofs.block_map.BlockMap.reserve_blocks.Given as goal

abbrev pub invariant-loop-left : goal.invariant-loop-left
invariant-loop-left l = ReservingEach l.fn.self l.self l.n l.left l.list

abbrev pub decreases-loop-left : goal.decreases-loop-left
decreases-loop-left l = l.left
