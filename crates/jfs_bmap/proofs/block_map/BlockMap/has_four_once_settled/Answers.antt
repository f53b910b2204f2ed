use Rattle.jfs_bmap.specs.Set.{taken_at}
use Rattle.jfs_bmap.proofs.Opened.{settled-is}
use Rattle.jfs_bmap.proofs.Lowest.{found-run}
use Rattle.jfs_bmap.proofs.block_map.BlockMap.has_four_once_settled.Goals as goal

pub returns : goal.returns
returns c = rw (c.is_some.ensures, settled-is c.self.inside c.args.self.now c.self.view_is c.self.invariant.0) (found-run (taken_at c.self.inside.held) 2 c.find.result c.find.ensures)
