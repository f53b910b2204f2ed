use Rattle.std.proofs.Common.{sym, ◌∙◌}
use Rattle.jfs_disk.specs.Image.{page_of}
use Rattle.jfs_read.specs.meaning.specs.Readers.{root_of}
use Rattle.jfs_read.proofs.Found.{found_within, never_outside}
use Rattle.jfs_read.proofs.Parts.{spelled_open}
use Rattle.jfs_truncate.proofs.tail.block_at.Goals as goal

pub returns-in-Err-page_of_block-clause-meets : goal.returns-in-Err-page_of_block-clause-meets
returns-in-Err-page_of_block-clause-meets g c tells =
    absurd (never_outside (g.V.PageView.block_count c.args.view.now) c.blocks-2.result c.args.k c.in-Ok-Some.found _ (c.blocks-2.ensures ∙ c.lookup.ensures.count_of_blocks)
    (found_within (g.V.PageView.block_count c.args.view.now) (page_of (g.V.PageView.image c.args.view.now)) (root_of c.args.at.now.inode) c.args.k c.in-Ok-Some.found (rw c.root_in.ensures.root at (sym (c.in-Ok-Some.ensures.on_way tells)) ∙ c.in-Ok-Some.field-0-is))
    (rw c.as_slice.ensures at c.page_of_block.ensures) c.in-Err-page_of_block.is)

pub returns-in-Err-page_of_block-clause-sound : goal.returns-in-Err-page_of_block-clause-sound
returns-in-Err-page_of_block-clause-sound g c tells =
    absurd (never_outside (g.V.PageView.block_count c.args.view.now) c.blocks-2.result c.args.k c.in-Ok-Some.found _ (c.blocks-2.ensures ∙ c.lookup.ensures.count_of_blocks)
    (found_within (g.V.PageView.block_count c.args.view.now) (page_of (g.V.PageView.image c.args.view.now)) (root_of c.args.at.now.inode) c.args.k c.in-Ok-Some.found (rw c.root_in.ensures.root at (sym (c.in-Ok-Some.ensures.on_way tells)) ∙ c.in-Ok-Some.field-0-is))
    (rw c.as_slice.ensures at c.page_of_block.ensures) c.in-Err-page_of_block.is)

pub returns-in-Err-clause-sound : goal.returns-in-Err-clause-sound
returns-in-Err-clause-sound g c tells es s =
    rw c.from_extents.ensures.value (spelled_open (g.V.PageView.block_count c.args.view.now) (page_of (g.V.PageView.image c.args.view.now)) (root_of c.args.at.now.inode) c.args.at.now.page c.in-Err.e
    (rw c.root_in.ensures.root at (c.in-Err.ensures.bad tells)) es s)
