use Rattle.jfs_disk.specs.Image.{page_of}
use Rattle.jfs_link.specs.way.specs.Walk.{tree_in}
use Rattle.jfs_rename.proofs.Leading.{follows_inside}
use Rattle.jfs_rename.proofs.through.is_inside.Goals as goal

pub returns-clause-follows : goal.returns-clause-follows
returns-clause-follows g c tells within area bm con = follows_inside (tree_in (g.V.PageView.block_count c.args.view.now) (page_of (g.V.PageView.image c.args.view.now)) area bm c.args.inodes.now) c.args.object.now c.args.to.now c.requires.some c.leads_through.result (c.leads_through.ensures.follows tells within area bm con)
