use Rattle.jfs_tree.proofs.Neighbours.{links_tree}
use Rattle.jfs_tree.proofs.linking.link_gaps.Goals as goal

pub returns-in-Ok-clause-links : goal.returns-in-Ok-clause-links
returns-in-Ok-clause-links g c = λ tells.
    links_tree (g.F.PageForm.node c.args.form.now) (g.F.PageForm.frame c.args.form.now) (g.V.PageView.image c.args.view.now) c.args.draft.now.pages.items c.close_gaps.new.draft.pages.items (g.F.PageForm.node c.args.top.now c.args.root.now) c.in-Some.level c.in-Some.ensures.children (c.in-Ok.ensures.links tells)
