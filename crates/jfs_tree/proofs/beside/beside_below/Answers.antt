use Rattle.std.proofs.Common.{◌∙◌}
use Rattle.jfs_tree.proofs.Neighbours.{closed_all, in_image}
use Rattle.jfs_tree.proofs.beside.beside_below.Goals as goal

pub returns-in-Ok-beside_others-clause-lower : goal.returns-in-Ok-beside_others-clause-lower
returns-in-Ok-beside_others-clause-lower g c = λ tells own closed all.
    c.in-Ok-beside_others.ensures.all tells own (in_image (g.F.PageForm.node c.args.form.now) (g.V.PageView.image c.args.view.now) (g.V.PageView.image c.read.new.view) c.args.draft.now.pages.items own (c.read.ensures.kept tells) closed) all
    (closed_all (g.F.PageForm.node c.args.form.now) (g.V.PageView.image c.args.view.now) c.args.draft.now.pages.items own c.args.level.now.here c.bytes.result.now c.in-Some.own closed (c.bytes.ensures.value ∙ c.in-Ok.ensures.bytes tells) all.here c.in-Some.ensures.children)
