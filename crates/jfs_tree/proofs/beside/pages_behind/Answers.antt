use Rattle.jfs_tree.proofs.Neighbours.{in_image}
use Rattle.jfs_tree.proofs.beside.pages_behind.Goals as goal

pub returns-in-Ok-first_children-clause-all : goal.returns-in-Ok-first_children-clause-all
returns-in-Ok-first_children-clause-all g c = λ tells own closed all behind next. (
  (c.in-Ok.ensures.children tells own closed all.behind).0,
  (c.in-Ok-first_children.ensures.children tells own (in_image (g.F.PageForm.node c.args.form.now) (g.V.PageView.image c.args.view.now) (g.V.PageView.image c.first_children.new.view) c.args.draft.now.pages.items own (c.in-Ok.ensures.image tells) closed) all.next).0,
)
