use Rattle.jfs_disk.specs.Image.{page_of}
use Rattle.jfs_look.proofs.Looks.{stat_follows}
use Rattle.jfs_look.proofs.attributes.stat.Goals as goal

pub returns-in-Ok-clause-follows : goal.returns-in-Ok-clause-follows
returns-in-Ok-clause-follows g c tells within area bm con =
    rw c.stat_in.ensures (stat_follows (g.V.PageView.block_count c.args.view.now) (page_of (g.V.PageView.image c.args.view.now)) c.args.inodes.now area bm con c.in-Ok.at c.in-Ok.ensures.held (c.in-Ok.ensures.shown tells)
    c.args.path.now (c.in-Ok.ensures.follows tells within area bm con))
