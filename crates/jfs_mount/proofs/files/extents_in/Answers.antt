use Rattle.std.proofs.Common.{◌∙◌}
use Rattle.jfs_disk.specs.Image.{page_of}
use Rattle.jfs_mount.proofs.Within.{told_extents}
use Rattle.jfs_mount.proofs.files.extents_in.Goals as goal

pub returns-in-Ok-clause-extents : goal.returns-in-Ok-clause-extents
returns-in-Ok-clause-extents g c tells =
    told_extents (g.V.PageView.block_count c.args.view.now) (page_of (g.V.PageView.image c.args.view.now)) c.args.k c.blocks-in-Ok.result c.in-Ok.extents c.if_within.result
    (c.blocks-in-Ok.ensures ∙ c.in-Ok.ensures.count_of_blocks) (c.in-Ok.ensures.list tells) c.if_within.ensures.same
