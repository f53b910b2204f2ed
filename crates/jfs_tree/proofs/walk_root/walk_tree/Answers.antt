use Rattle.jfs_tree.specs.Call.{pages_of}
use Rattle.jfs_tree.proofs.WalkRoot.{tells_list, tells_bad}
use Rattle.jfs_tree.proofs.walk_root.walk_tree.Goals as goal

pub returns-clause-spelled : goal.returns-clause-spelled
returns-clause-spelled g c tells =
    tells_list g.F.PageForm.scale g.W.Visitor.sees_page g.W.Visitor.sees_entry c.args.visitor.now (pages_of (g.F.PageForm.node c.args.form.now) (g.V.PageView.image c.args.view.now)) (g.F.PageForm.node c.args.top.now c.args.root.now)
    (g.F.PageRead.place c.least-low.result) (g.F.PageRead.place c.walk_root.new.low) c.walk_root.result c.walk_root.new.visitor c.least-low.ensures (c.walk_root.ensures.met tells)

pub returns-clause-bad : goal.returns-clause-bad
returns-clause-bad g c tells =
    tells_bad g.F.PageForm.scale g.W.Visitor.sees_page g.W.Visitor.sees_entry c.args.visitor.now (pages_of (g.F.PageForm.node c.args.form.now) (g.V.PageView.image c.args.view.now)) (g.F.PageForm.node c.args.top.now c.args.root.now)
    (g.F.PageRead.place c.least-low.result) (g.F.PageRead.place c.walk_root.new.low) c.walk_root.result c.walk_root.new.visitor c.least-low.ensures (c.walk_root.ensures.met tells)
