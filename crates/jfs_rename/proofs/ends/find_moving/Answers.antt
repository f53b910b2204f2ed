use Rattle.std.proofs.Common.{◌∙◌, sym}
use Rattle.jfs_disk.specs.Image.{page_of}
use Rattle.jfs_link.specs.way.specs.Walk.{tree_in}
use Rattle.jfs_rename.proofs.FoundEnds.{nameless_refused, source_refused, target_refused, are_ends}
use Rattle.jfs_rename.proofs.ends.find_moving.Goals as goal

pub returns-then-is_nameless-clause-follows : goal.returns-then-is_nameless-clause-follows
returns-then-is_nameless-clause-follows g c tells within area bm con = nameless_refused (tree_in (g.V.PageView.block_count c.args.view.now) (page_of (g.V.PageView.image c.args.view.now)) area bm c.args.inodes.now) c.args.from.now c.args.to.now c.in-Ok.object (c.in-Ok.ensures.follows tells within area bm con) (sym c.is_nameless.ensures ∙ c.if-is_nameless.true)

pub returns-in-Err-place-clause-follows : goal.returns-in-Err-place-clause-follows
returns-in-Err-place-clause-follows g c tells within area bm con = source_refused (tree_in (g.V.PageView.block_count c.args.view.now) (page_of (g.V.PageView.image c.args.view.now)) area bm c.args.inodes.now) c.args.from.now c.args.to.now c.in-Ok.object (c.in-Ok.ensures.follows tells within area bm con) (sym c.is_nameless.ensures ∙ c.if-is_nameless.false) c.in-Err-place.e (rw (c.walk.ensures.count_of_blocks, c.walk.ensures.image tells) at (c.in-Err-place.ensures.follows tells) within area bm con)

pub returns-in-Err-place-2-clause-follows : goal.returns-in-Err-place-2-clause-follows
returns-in-Err-place-2-clause-follows g c tells within area bm con = target_refused (tree_in (g.V.PageView.block_count c.args.view.now) (page_of (g.V.PageView.image c.args.view.now)) area bm c.args.inodes.now) c.args.from.now c.args.to.now c.in-Ok.object (c.in-Ok.ensures.follows tells within area bm con) (sym c.is_nameless.ensures ∙ c.if-is_nameless.false) c.in-Ok-place.source (rw (c.walk.ensures.count_of_blocks, c.walk.ensures.image tells) at (c.in-Ok-place.ensures.follows tells) within area bm con)
    c.in-Err-place-2.e (rw (c.place.ensures.count_of_blocks, c.place.ensures.image tells, c.walk.ensures.count_of_blocks, c.walk.ensures.image tells) at (c.in-Err-place-2.ensures.follows tells) within area bm con)

pub returns-in-Ok-place-2-clause-follows : goal.returns-in-Ok-place-2-clause-follows
returns-in-Ok-place-2-clause-follows g c tells within area bm con = are_ends (tree_in (g.V.PageView.block_count c.args.view.now) (page_of (g.V.PageView.image c.args.view.now)) area bm c.args.inodes.now) c.args.from.now c.args.to.now c.in-Ok.object (c.in-Ok.ensures.follows tells within area bm con) (sym c.is_nameless.ensures ∙ c.if-is_nameless.false) c.in-Ok-place.source (rw (c.walk.ensures.count_of_blocks, c.walk.ensures.image tells) at (c.in-Ok-place.ensures.follows tells) within area bm con)
    c.in-Ok-place-2.target (rw (c.place.ensures.count_of_blocks, c.place.ensures.image tells, c.walk.ensures.count_of_blocks, c.walk.ensures.image tells) at (c.in-Ok-place-2.ensures.follows tells) within area bm con)
