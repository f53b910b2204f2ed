use Rattle.jfs_disk.specs.Image.{page_of}
use Rattle.std.proofs.Common.{◌∙◌}
use Rattle.jfs_write.proofs.Spelled.{never_wide}
use Rattle.jfs_write.proofs.look.extents_of.Goals as goal

pub returns-else-are_within-clause-meets : goal.returns-else-are_within-clause-meets
returns-else-are_within-clause-meets g c tells = absurd (never_wide (g.V.PageView.block_count c.args.view.now) c.blocks-2.result (page_of (g.V.PageView.image c.args.view.now)) c.root_in.result.now c.in-Ok.es c.as_slice.result.now c.are_within.result
    (c.blocks-2.ensures ∙ c.extents.ensures.count_of_blocks) c.as_slice.ensures (c.in-Ok.ensures.list tells) c.are_within.ensures c.if-are_within.false)
