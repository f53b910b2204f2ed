use Rattle.jfs_tree.proofs.Neighbours.{in_image}
use Rattle.jfs_tree.proofs.beside.beside_others.Goals as goal

pub returns-in-Ok-pages_behind-clause-all : goal.returns-in-Ok-pages_behind-clause-all
returns-in-Ok-pages_behind-clause-all g c = λ tells own closed all children.
    let behind = c.in-Ok-pages_behind.ensures.all tells own (in_image (g.F.PageForm.node c.args.form.now) (g.V.PageView.image c.args.view.now) (g.V.PageView.image c.page_before.new.view) c.args.draft.now.pages.items own (c.in-Ok.ensures.image tells) closed) all children.behind children.next in
    record { before = c.in-Ok.ensures.all tells own closed all children.before; here = children.here; behind = behind.0; next = behind.1 }
