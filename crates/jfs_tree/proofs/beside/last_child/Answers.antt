use Rattle.std.proofs.Common.{◌∙◌}
use Rattle.jfs_tree.proofs.Neighbours.{closed_child, has_some}
use Rattle.jfs_tree.proofs.beside.last_child.Goals as goal

pub returns-in-Some-checked_sub-clause-child : goal.returns-in-Some-checked_sub-clause-child
returns-in-Some-checked_sub-clause-child g c = λ tells own closed has.
    closed_child (g.F.PageForm.node c.args.form.now) (g.V.PageView.image c.args.view.now) c.args.draft.now.pages.items own c.in-Some.n c.bytes-in-Some-checked_sub.result.now c.child_at.result closed (c.bytes-in-Some-checked_sub.ensures.value ∙ c.in-Ok.ensures.bytes tells)
    (has_some own c.args.page c.in-Some.n c.in-Some.is has) c.child_at.ensures.child
