use Rattle.jfs_disk.specs.Image.{page_of}
use Rattle.jfs_loss.specs.way.specs.Walk.{tree_in}
use Rattle.jfs_unlink.proofs.Paths.{last_is, above_fails, last_found, last_fails, meets_above, meets_last, meets_no_last}
use Rattle.jfs_unlink.proofs.ends.find_ends.Goals as goal

pub returns-in-Err-clause-follows : goal.returns-in-Err-clause-follows
returns-in-Err-clause-follows g c tells within area bm con =
    above_fails (tree_in (g.V.PageView.block_count c.args.view.now) (page_of (g.V.PageView.image c.args.view.now)) area bm c.args.inodes.now) c.args.path.now c.requires.some c.in-Err.e (c.in-Err.ensures.follows tells within area bm con)

pub returns-in-Err-clause-meets : goal.returns-in-Err-clause-meets
returns-in-Err-clause-meets g c tells =
    meets_above (g.V.PageView.block_count c.args.view.now) (page_of (g.V.PageView.image c.args.view.now)) c.args.inodes.now c.args.path.now c.requires.some c.in-Err.e (c.in-Err.ensures.meets tells)

pub returns-in-Ok-enter-clause-follows : goal.returns-in-Ok-enter-clause-follows
returns-in-Ok-enter-clause-follows g c tells within area bm con =
    last_found (tree_in (g.V.PageView.block_count c.args.view.now) (page_of (g.V.PageView.image c.args.view.now)) area bm c.args.inodes.now) c.args.path.now c.requires.some c.in-Ok.dir (c.in-Ok.ensures.follows tells within area bm con)
    c.index-path-last.result (last_is c.args.path.now c.requires.some c.index-path-last.result c.index-path-last.is) c.in-Ok-enter.at (rw (c.walk.ensures.count_of_blocks, c.walk.ensures.image tells) at (c.in-Ok-enter.ensures.follows tells) within area bm con)

pub returns-in-Ok-enter-clause-meets : goal.returns-in-Ok-enter-clause-meets
returns-in-Ok-enter-clause-meets g c tells =
    meets_last (g.V.PageView.block_count c.args.view.now) (page_of (g.V.PageView.image c.args.view.now)) c.args.inodes.now c.args.path.now c.requires.some c.in-Ok.dir (c.in-Ok.ensures.meets tells)
    c.index-path-last.result (last_is c.args.path.now c.requires.some c.index-path-last.result c.index-path-last.is) c.in-Ok-enter.at (rw (c.walk.ensures.count_of_blocks, c.walk.ensures.image tells) at (c.in-Ok-enter.ensures.meets tells))

pub returns-in-Err-enter-clause-follows : goal.returns-in-Err-enter-clause-follows
returns-in-Err-enter-clause-follows g c tells within area bm con =
    last_fails (tree_in (g.V.PageView.block_count c.args.view.now) (page_of (g.V.PageView.image c.args.view.now)) area bm c.args.inodes.now) c.args.path.now c.requires.some c.in-Ok.dir (c.in-Ok.ensures.follows tells within area bm con)
    c.index-path-last.result (last_is c.args.path.now c.requires.some c.index-path-last.result c.index-path-last.is) c.in-Err-enter.e (rw (c.walk.ensures.count_of_blocks, c.walk.ensures.image tells) at (c.in-Err-enter.ensures.follows tells) within area bm con)

pub returns-in-Err-enter-clause-meets : goal.returns-in-Err-enter-clause-meets
returns-in-Err-enter-clause-meets g c tells =
    meets_no_last (g.V.PageView.block_count c.args.view.now) (page_of (g.V.PageView.image c.args.view.now)) c.args.inodes.now c.args.path.now c.requires.some c.in-Ok.dir (c.in-Ok.ensures.meets tells)
    c.index-path-last.result (last_is c.args.path.now c.requires.some c.index-path-last.result c.index-path-last.is) c.in-Err-enter.e (rw (c.walk.ensures.count_of_blocks, c.walk.ensures.image tells) at (c.in-Err-enter.ensures.meets tells))
