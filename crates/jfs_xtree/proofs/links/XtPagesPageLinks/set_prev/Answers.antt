use Rattle.jfs_xtree.proofs.Neighbours.{linked_node}
use Rattle.jfs_xtree.proofs.Frames.{frame_linked}
use Rattle.jfs_xtree.proofs.links.XtPagesPageLinks.set_prev.Goals as goal

pub returns-clause-node : goal.returns-clause-node
returns-clause-node c = linked_node c.args.bytes.now c.xt_link.new.bytes c.get_u64-next.result c.from.result c.args.self.now.form c.args.self.now.blocks c.xt_link.ensures.head c.xt_link.ensures.entries

pub returns-clause-frame : goal.returns-clause-frame
returns-clause-frame c = frame_linked c.args.self.now.form c.args.bytes.now c.xt_link.new.bytes c.get_u64-next.result c.from.result (c.has_links.ensures c.if-not-has_links.false) c.xt_link.ensures.head
