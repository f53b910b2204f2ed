-- All inodes, one after the other.
use Rattle.std.proofs.Common.{arith}
use Rattle.jfs_disk.specs.Image.{page_of}
use Rattle.jfs_link_check.proofs.Used.{all_used}
use Rattle.jfs_link_check.proofs.uses.uses_of.Goals as goal

pub returns-clause-uses : goal.returns-clause-uses
returns-clause-uses g c tells = all_used (g.V.PageView.block_count c.args.view.now) (page_of (g.V.PageView.image c.args.view.now)) c.args.places.now c.in-Ok.uses c.each_inode.new.visitor
    (let low = c.blocks-blocks.type_inv in let is = c.blocks-blocks.ensures in omega (arith, low, is)) c.requires.fit c.in-Ok.ensures (c.in_ok-each_inode.ensures.visits tells)
