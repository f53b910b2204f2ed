use Rattle.std.proofs.Common.{subst, Ok}
use Rattle.jfs_disk.specs.Image.{Image}
use Rattle.jfs_tree.specs.Form.{as_child}
use Rattle.jfs_tree.specs.Call.{pages_of}
use Rattle.jfs_tree.specs.Walking.{Shows, ended, children_in}
use Rattle.jfs_tree.specs.declared.walk_read.Shape.{Shape}
use Rattle.jfs_tree.proofs.WalkSteps.{OthersMet}
use Rattle.jfs_tree.proofs.WalkRoot.{root_fails, root_rows, root_stops, root_goes, no_empty_leaf, broken_root, empty_root}
use Rattle.jfs_tree.proofs.walk_root.walk_root.Goals as goal

pub returns-in-Err-clause-met : goal.returns-in-Err-clause-met
returns-in-Err-clause-met g c tells =
    let top = g.F.PageForm.node c.args.top.now c.args.root.now in
    let broken = broken_root top c.in-Err.rule c.in-Err.ensures in
    root_fails g.F.PageForm.scale g.met.F.PageForm.order g.W.Visitor.sees_page g.W.Visitor.sees_entry (pages_of (g.F.PageForm.node c.args.form.now) (g.V.PageView.image c.args.view.now)) top (g.F.PageRead.place c.args.low.now) c.requires.least c.args.visitor.now c.page.new.self c.page.ensures
    c.in-Err.rule broken.0 broken.1

pub returns-in-Ok-Leaf-clause-fault : goal.returns-in-Ok-Leaf-clause-fault
returns-in-Ok-Leaf-clause-fault g c = c.walk_rows.ensures.fault (g.V.PageView.faults c.args.view.now)

pub returns-in-Ok-Leaf-clause-met : goal.returns-in-Ok-Leaf-clause-met
returns-in-Ok-Leaf-clause-met g c tells =
    let top = g.F.PageForm.node c.args.top.now c.args.root.now in
    let shows = subst (λ (s : Shape). Shows top (Ok s)) c.in-Ok-Leaf.field-0-is c.in-Ok-Leaf.ensures in
    root_rows g.F.PageForm.scale g.met.F.PageForm.order g.W.Visitor.sees_page g.W.Visitor.sees_entry (pages_of (g.F.PageForm.node c.args.form.now) (g.V.PageView.image c.args.view.now)) top (g.F.PageRead.place c.args.low.now) c.args.visitor.now c.page.new.self
    shows.0 (ended (g.F.PageRead.place c.walk_rows.new.low) c.walk_rows.result) c.walk_rows.new.visitor c.requires.least c.page.ensures shows.1 c.walk_rows.ensures.met

pub returns-in-Ok-Inner-eq0-clause-met : goal.returns-in-Ok-Inner-eq0-clause-met
returns-in-Ok-Inner-eq0-clause-met g c tells =
    let top = g.F.PageForm.node c.args.top.now c.args.root.now in
    let broken = empty_root top c.in-Ok-Inner-eq0.field-0-0 c.in-Ok-Inner-eq0.field-0-0-test (subst (λ (s : Shape). Shows top (Ok s)) c.in-Ok-Inner-eq0.field-0-is c.in-Ok-Inner-eq0.ensures) in
    root_fails g.F.PageForm.scale g.met.F.PageForm.order g.W.Visitor.sees_page g.W.Visitor.sees_entry (pages_of (g.F.PageForm.node c.args.form.now) (g.V.PageView.image c.args.view.now)) top (g.F.PageRead.place c.args.low.now) c.requires.least c.args.visitor.now c.page.new.self c.page.ensures
    _ broken.0 broken.1

pub returns-in-Ok-clause-met : goal.returns-in-Ok-clause-met
returns-in-Ok-clause-met g c tells =
    let top = g.F.PageForm.node c.args.top.now c.args.root.now in
    let node = g.F.PageForm.node c.args.form.now in
    let image = g.V.PageView.image c.args.view.now in
    root_goes g.F.PageForm.scale g.met.F.PageForm.order g.W.Visitor.sees_page g.W.Visitor.sees_entry (pages_of node image) top (g.F.PageRead.place c.args.low.now) c.requires.least c.args.visitor.now c.page.new.self c.page.ensures
    c.in-Ok.below (as_child c.child-first.result) (g.F.PageRead.place c.walk_first.new.low) c.walk_first.new.visitor (ended (g.F.PageRead.place c.walk_others.new.low) c.walk_others.result) c.walk_others.new.visitor
    (no_empty_leaf top (as_child c.child-first.result) c.child-first.ensures.is) c.child-first.ensures.is (c.in-Ok.ensures.levels tells top) (c.in-Ok.ensures.met tells top)
    (subst (λ (i : Image). OthersMet g.F.PageForm.scale g.W.Visitor.sees_page g.W.Visitor.sees_entry (pages_of node i) top c.in-Ok.below (children_in top) (g.F.PageRead.place c.walk_first.new.low) c.walk_first.new.visitor (ended (g.F.PageRead.place c.walk_others.new.low) c.walk_others.result) c.walk_others.new.visitor)
    (c.walk_first.ensures.image tells) (c.walk_others.ensures.met tells top))

pub returns-clause-met : goal.returns-clause-met
returns-clause-met g c tells =
    let top = g.F.PageForm.node c.args.top.now c.args.root.now in
    root_stops g.F.PageForm.scale g.met.F.PageForm.order g.W.Visitor.sees_page g.W.Visitor.sees_entry (pages_of (g.F.PageForm.node c.args.form.now) (g.V.PageView.image c.args.view.now)) top (g.F.PageRead.place c.args.low.now) c.requires.least c.args.visitor.now c.page.new.self c.page.ensures
    (as_child c.child-first.result) c.in-Err-walk_first.e c.walk_first.new.visitor (no_empty_leaf top (as_child c.child-first.result) c.child-first.ensures.is) c.child-first.ensures.is (c.in-Err-walk_first.ensures.met tells top)
