use Rattle.jfs_dtpage.specs.declared.head.DtForm.TheVariants.{Full}
use Rattle.jfs_dtpage.specs.Form.{head_of, linked}
use Rattle.jfs_dtree.proofs.Neighbours.{linked_node}
use Rattle.jfs_dtree.proofs.Frames.{place_frame}
use Rattle.jfs_dtree.proofs.links.DtPagesPageLinks.set_next.Goals as goal

pub returns-clause-node : goal.returns-clause-node
returns-clause-node c =
    linked_node c.args.self.now.form c.args.bytes.now c.dt_link.new.bytes (linked c.from.result c.get_u64-prev.result (head_of Full c.args.bytes.now).place) c.args.self.now.blocks
    (c.has_links.ensures.form c.if-not-has_links.false) (c.has_links.ensures.page c.if-not-has_links.false) c.dt_link.ensures.sound c.dt_link.ensures.head c.dt_link.ensures.entries

pub returns-clause-frame : goal.returns-clause-frame
returns-clause-frame c = place_frame c.args.self.now.form c.args.bytes.now c.dt_link.new.bytes c.from.result c.get_u64-prev.result (c.has_links.ensures.form c.if-not-has_links.false) c.dt_link.ensures.head
