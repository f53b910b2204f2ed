use Rattle.std.proofs.Common.{sym, ◌∙◌}
use Rattle.jfs_disk.specs.Image.{page_of}
use Rattle.jfs_readlink.proofs.Bytes.{some_block, no_block}
use Rattle.jfs_readlink.proofs.stored.block_bytes.Goals as goal

pub returns-in-Ok-Some-clause-bytes : goal.returns-in-Ok-Some-clause-bytes
returns-in-Ok-Some-clause-bytes g c tells = some_block (page_of (g.V.PageView.image c.args.view.now)) c.args.extents.now c.args.j c.in-Ok-Some.part (sym c.in-Ok-Some.field-0-is ∙ c.in-Ok-Some.ensures.part tells)

pub returns-in-Ok-None-clause-bytes : goal.returns-in-Ok-None-clause-bytes
returns-in-Ok-None-clause-bytes g c tells = no_block (page_of (g.V.PageView.image c.args.view.now)) c.args.extents.now c.args.j (sym c.in-Ok-None.field-0-is ∙ c.in-Ok-None.ensures.part tells)
