use Rattle.jfs_disk.specs.Image.{page_of}
use Rattle.jfs_way.specs.Way.{path_of}
use Rattle.jfs_readlink.proofs.Targets.{at_end, target_follows}
use Rattle.jfs_readlink.proofs.link.read_link.Goals as goal

pub returns-in-Ok-clause-follows : goal.returns-in-Ok-clause-follows
returns-in-Ok-clause-follows g c tells within area bm con =
    target_follows (g.V.PageView.block_count c.args.view.now) (page_of (g.V.PageView.image c.args.view.now)) c.args.inodes.now area bm con c.in-Ok.at c.in-Ok.ensures.held (c.in-Ok.ensures.shown tells)
    c.args.path.now (c.in-Ok.ensures.follows tells within area bm con) c.target_of.result (rw (c.walk.ensures.count_of_blocks, c.walk.ensures.image tells) at (c.target_of.ensures.meets tells))

pub returns-in-Ok-clause-meets : goal.returns-in-Ok-clause-meets
returns-in-Ok-clause-meets g c tells =
    let blocks = g.V.PageView.block_count c.args.view.now in
    let pages = page_of (g.V.PageView.image c.args.view.now) in
    at_end blocks pages (path_of blocks pages c.args.inodes.now c.args.path.now) c.in-Ok.at (c.in-Ok.ensures.meets tells) c.target_of.result
    (rw (c.walk.ensures.count_of_blocks, c.walk.ensures.image tells) at (c.target_of.ensures.meets tells))
