use Rattle.std.proofs.Common.{◌≡◌, Err}
use Rattle.jfs_tree.specs.declared.form.TreeError.TheVariants.{Bad}
use Rattle.jfs_tree.specs.Spells.{tree_of}
use Rattle.jfs_tree.specs.Call.{pages_of}
use Rattle.jfs_owners.proofs.Fronts.{whole_front, fault_front}
use Rattle.jfs_owners.proofs.Seen.{seen, unsaid}
use Rattle.jfs_owners.proofs.shown.show_sound.Goals as goal

pub returns-in-Ok-clause-sees : goal.returns-in-Ok-clause-sees
returns-in-Ok-clause-sees g c tells =
    let met = c.in-Ok.ensures.met tells in
    seen g.F.PageForm.scale g.W.Visitor.sees_page g.W.Visitor.sees_entry (g.F.PageForm.node c.args.form.now) (g.V.PageView.image c.args.view.now) (g.F.PageForm.node c.args.top.now c.args.root.now)
    c.args.visitor.now c.walk_tree.new.visitor met.0 (c.in-Ok.ensures.spelled tells) met.1

pub returns-in-Err-Bad-clause-sees : goal.returns-in-Err-Bad-clause-sees
returns-in-Err-Bad-clause-sees g c tells =
    let is : c.walk_tree.result ≡ Err (Bad c.in-Err-Bad.field-0-0 c.in-Err-Bad.field-0-1) = cc (c.in-Err-Bad.is, c.in-Err-Bad.field-0-is) in
    unsaid g.F.PageForm.scale g.W.Visitor.sees_page g.W.Visitor.sees_entry (g.F.PageForm.node c.args.form.now) (g.V.PageView.image c.args.view.now) (g.F.PageForm.node c.args.top.now c.args.root.now)
    c.walk_tree.result c.in-Err-Bad.field-0-0 c.in-Err-Bad.field-0-1 c.args.visitor.now c.walk_tree.new.visitor is (c.walk_tree.ensures.bad tells)

pub returns-in-Ok-clause-front : goal.returns-in-Ok-clause-front
returns-in-Ok-clause-front g c tells =
    let met = c.in-Ok.ensures.met tells in
    whole_front g.F.PageForm.scale g.W.Visitor.sees_page g.W.Visitor.sees_entry (tree_of g.F.PageForm.scale (pages_of (g.F.PageForm.node c.args.form.now) (g.V.PageView.image c.args.view.now)) (g.F.PageForm.node c.args.top.now c.args.root.now))
    met.0 c.args.visitor.now c.walk_tree.new.visitor met.1

pub returns-in-Err-Bad-clause-front : goal.returns-in-Err-Bad-clause-front
returns-in-Err-Bad-clause-front g c tells =
    let is : c.walk_tree.result ≡ Err (Bad c.in-Err-Bad.field-0-0 c.in-Err-Bad.field-0-1) = cc (c.in-Err-Bad.is, c.in-Err-Bad.field-0-is) in
    fault_front g.F.PageForm.scale g.W.Visitor.sees_page g.W.Visitor.sees_entry (tree_of g.F.PageForm.scale (pages_of (g.F.PageForm.node c.args.form.now) (g.V.PageView.image c.args.view.now)) (g.F.PageForm.node c.args.top.now c.args.root.now))
    c.walk_tree.result c.in-Err-Bad.field-0-0 c.in-Err-Bad.field-0-1 c.args.visitor.now c.walk_tree.new.visitor is (c.walk_tree.ensures.met tells)
