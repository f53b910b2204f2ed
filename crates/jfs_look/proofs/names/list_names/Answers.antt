use Rattle.jfs_disk.specs.Image.{page_of}
use Rattle.jfs_look.proofs.Lists.{names_follow}
use Rattle.jfs_look.proofs.names.list_names.Goals as goal

pub returns-in-Ok-clause-follows : goal.returns-in-Ok-clause-follows
returns-in-Ok-clause-follows g c tells within area bm con =
    names_follow (g.V.PageView.block_count c.args.view.now) (page_of (g.V.PageView.image c.args.view.now)) c.args.inodes.now area bm con c.in-Ok.at c.in-Ok.ensures.held (c.in-Ok.ensures.shown tells)
    c.args.path.now (c.in-Ok.ensures.follows tells within area bm con) c.names_of.result (rw (c.walk.ensures.count_of_blocks, c.walk.ensures.image tells) at (c.names_of.ensures.meets tells))
