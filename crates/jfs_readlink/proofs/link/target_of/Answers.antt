use Rattle.std.proofs.Common.{sym, ◌∙◌, arith}
use Rattle.jfs_disk.specs.Image.{page_of}
use Rattle.jfs_readlink.proofs.Targets.{not_short, read_fails}
use Rattle.jfs_readlink.proofs.link.target_of.Goals as goal

pub returns-clause-meets : goal.returns-clause-meets
returns-clause-meets g c tells =
    rw c.from_read.ensures.value
    (read_fails (g.V.PageView.block_count c.args.view.now) (page_of (g.V.PageView.image c.args.view.now)) c.args.at.now
    (sym c.is_symbolic.ensures ∙ c.if-not-is_symbolic.false) (not_short c.args.at.now.inode.size (omega (arith, c.if-at-lt256.false)))
    c.in-Ok-extents_of.extents (c.in-Ok-extents_of.ensures.list tells) c.in-Err-stored_bytes.e (rw (c.extents_of.ensures.count_of_blocks, c.as_slice.ensures) at c.in-Err-stored_bytes.ensures.outside))
