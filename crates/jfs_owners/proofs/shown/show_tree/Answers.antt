use Rattle.jfs_owners.proofs.Seen.{unseen, shown_whole}
use Rattle.jfs_owners.proofs.shown.show_tree.Goals as goal

pub returns-in-Err-clause-sees : goal.returns-in-Err-clause-sees
returns-in-Err-clause-sees g c tells =
    unseen g.F.PageForm.scale g.W.Visitor.sees_page g.W.Visitor.sees_entry (g.F.PageForm.node c.args.form.now) (g.V.PageView.image c.args.view.now) (g.F.PageForm.node c.args.top.now c.args.root.now)
    c.in-Err.e c.not_shown.result c.args.visitor.now (c.in-Err.ensures.bad tells) c.not_shown.ensures

pub returns-clause-sees : goal.returns-clause-sees
returns-clause-sees g c tells =
    shown_whole g.F.PageForm.scale g.W.Visitor.sees_page g.W.Visitor.sees_entry (g.F.PageForm.node c.args.form.now) (g.V.PageView.image c.args.view.now) (g.F.PageForm.node c.args.top.now c.args.root.now)
    (g.V.PageView.image c.walk_tree.new.view) c.args.visitor.now c.show_sound.new.visitor (c.walk_tree.ensures.image tells) (c.in-Ok.ensures.spelled tells) (c.in_ok-show_sound.ensures.sees tells)
