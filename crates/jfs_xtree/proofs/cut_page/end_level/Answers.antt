use Rattle.std.proofs.Common.{refl}
use Rattle.jfs_xtpage.specs.declared.head.XtForm.TheVariants.{Full}
use Rattle.jfs_xtree.proofs.Frames.{frame_linked}
use Rattle.jfs_xtree.proofs.Neighbours.{linked_node}
use Rattle.jfs_xtree.proofs.cut_page.end_level.Goals as goal

pub returns-clause-node : goal.returns-clause-node
returns-clause-node c = λ form blocks. linked_node c.args.bytes.now c.xt_link.new.bytes 0 c.get_u64-prev.result form blocks c.xt_link.ensures.head c.xt_link.ensures.entries

pub returns-clause-frame : goal.returns-clause-frame
returns-clause-frame c = frame_linked Full c.args.bytes.now c.xt_link.new.bytes 0 c.get_u64-prev.result refl c.xt_link.ensures.head
