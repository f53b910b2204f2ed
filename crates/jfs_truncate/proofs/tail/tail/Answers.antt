use Rattle.std.proofs.Common.{◌%◌, ◌/◌, ne_eqb}
use Rattle.jfs_disk.specs.Image.{page_of}
use Rattle.jfs_xtree.specs.Spells.{found_for}
use Rattle.jfs_read.specs.meaning.specs.Readers.{root_of}
use Rattle.jfs_read.specs.Read.{block_by}
use Rattle.jfs_truncate.proofs.Refused.{tail_broken}
use Rattle.jfs_truncate.proofs.tail.tail.Goals as goal

pub returns-in-Err-clause-way : goal.returns-in-Err-clause-way
returns-in-Err-clause-way g c tells =
    let b = g.V.PageView.block_count c.args.view.now in
    let p = page_of (g.V.PageView.image c.args.view.now) in
    tail_broken b p c.args.at.now c.args.kept (block_by (found_for b p (root_of c.args.at.now.inode) (c.args.kept / 4096)) (c.args.kept / 4096)) c.in-Err.e (ne_eqb (c.args.kept % 4096) 0 c.if-from-eq0.false) (c.in-Err.ensures.meets tells)
