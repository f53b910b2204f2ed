use Rattle.std.proofs.Common.{arith}
use Rattle.jfs_bmap.proofs.Opened.{busy-is}
use Rattle.jfs_bmap.proofs.block_map.BlockMap.busy.Goals as goal

pub overflow_sub-result : goal.overflow_sub-result
overflow_sub-result c = omega (arith, c.free.ensures, c.free-2.ensures, busy-is c.self.inside c.args.self.now c.self.view_is c.self.invariant.0)

pub returns : goal.returns
returns c = omega (arith, c.free.ensures, c.free-2.ensures, busy-is c.self.inside c.args.self.now c.self.view_is c.self.invariant.0)
