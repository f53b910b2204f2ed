use Rattle.std.proofs.Common.{◌≡◌, true}
use Rattle.jfs_bits.specs.Bits.{is_full}
use Rattle.jfs_bmap.specs.States.{is_reserved}
use Rattle.jfs_bmap.proofs.block_map.BlockMap.are_reserved_from.Given as goal

abbrev pub invariant-loop-i : goal.invariant-loop-i
invariant-loop-i l = is_full (is_reserved l.self) l.first l.i ≡ true
