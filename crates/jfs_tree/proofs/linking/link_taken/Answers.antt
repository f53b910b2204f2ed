use Rattle.jfs_tree.proofs.Neighbours.{links_tree, on_ok}
use Rattle.jfs_tree.proofs.linking.link_taken.Goals as goal

pub returns-in-Some-clause-links : goal.returns-in-Some-clause-links
returns-in-Some-clause-links g c = λ tells.
    on_ok c.link_behind.result (links_tree (g.F.PageForm.node c.args.form.now) (g.F.PageForm.frame c.args.form.now) (g.V.PageView.image c.args.view.now) c.args.draft.now.pages.items c.link_behind.new.draft.pages.items (g.F.PageForm.node c.args.top.now c.args.root.now) c.in-Some.level c.in-Some.ensures.children)
    (c.link_behind.ensures.links tells)
