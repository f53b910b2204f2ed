use Rattle.std.proofs.Common.{◌∙◌}
use Rattle.jfs_tree.proofs.Neighbours.{closed_child, has_some}
use Rattle.jfs_tree.proofs.beside.first_children.Goals as goal

pub returns-clause-children : goal.returns-clause-children
returns-clause-children g c = λ tells own closed has. (
  closed_child (g.F.PageForm.node c.args.form.now) (g.V.PageView.image c.args.view.now) c.args.draft.now.pages.items own c.in-Some.n c.bytes.result.now c.child_at.result closed (c.bytes.ensures.value ∙ c.in-Ok.ensures.bytes tells) (has_some own c.args.page c.in-Some.n c.in-Some.is has) c.child_at.ensures.child,
  closed_child (g.F.PageForm.node c.args.form.now) (g.V.PageView.image c.args.view.now) c.args.draft.now.pages.items own c.in-Some.n c.bytes-2.result.now c.child_at-2.result closed (c.bytes-2.ensures.value ∙ c.in-Ok.ensures.bytes tells) (has_some own c.args.page c.in-Some.n c.in-Some.is has) c.child_at-2.ensures.child,
)
