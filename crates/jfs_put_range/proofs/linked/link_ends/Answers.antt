use Rattle.jfs_xtpage.specs.declared.head.XtForm.TheVariants.{Full}
use Rattle.jfs_xtree.specs.Node.{xt_node, frame_of}
use Rattle.jfs_put_range.proofs.Links.{links_again}
use Rattle.jfs_tree.proofs.Drafts.{keeps_then}
use Rattle.jfs_put_range.proofs.linked.link_ends.Goals as goal

pub returns-in-Ok-link_taken-clause-links : goal.returns-in-Ok-link_taken-clause-links
returns-in-Ok-link_taken-clause-links g c = λ tells.
    links_again (xt_node Full c.args.top.now.blocks) (frame_of Full) (g.V.PageView.image c.args.view.now) (g.V.PageView.image c.link_taken.new.view) c.args.draft.now.pages.items c.link_taken.new.draft.pages.items c.link_taken-2.new.draft.pages.items
    (xt_node c.args.top.now.form c.args.top.now.blocks c.args.root.now) (c.in-Ok.ensures.image tells) (c.in-Ok.ensures.links tells) (c.in-Ok-link_taken.ensures.links tells)

pub returns-in-Ok-link_taken-clause-drafted : goal.returns-in-Ok-link_taken-clause-drafted
returns-in-Ok-link_taken-clause-drafted g c =
    keeps_then c.args.draft.now.pages.items c.link_taken.new.draft.pages.items c.link_taken-2.new.draft.pages.items c.in-Ok.ensures.drafted c.in-Ok-link_taken.ensures.drafted
