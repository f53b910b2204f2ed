use Rattle.std.proofs.Common.{sym, ◌∙◌}
use Rattle.jfs_tree.specs.Walking.{rows_in}
use Rattle.jfs_tree.proofs.WalkSteps.{row_refused, row_lost, row_seen}
use Rattle.jfs_tree.proofs.walk_leaf.walk_rows.Goals as goal

pub returns-then-not-takes_entry-clause-met : goal.returns-then-not-takes_entry-clause-met
returns-then-not-takes_entry-clause-met g c =
    row_refused g.F.PageForm.scale g.W.Visitor.sees_page g.W.Visitor.sees_entry c.args.page (rows_in (g.F.PageForm.node c.args.form.now c.args.bytes.now)) c.loop-i.i c.read_entry.new.x
    (g.F.PageRead.place c.args.low.now) (g.F.PageRead.place c.loop-i.low) c.args.visitor.now c.loop-i.visitor c.loop-i.invariant c.read_entry.ensures (sym c.takes_entry.ensures ∙ c.if-not-takes_entry.true)

pub returns-in-Err-clause-met : goal.returns-in-Err-clause-met
returns-in-Err-clause-met g c =
    row_lost g.F.PageForm.scale g.W.Visitor.sees_page g.W.Visitor.sees_entry c.args.page (rows_in (g.F.PageForm.node c.args.form.now c.args.bytes.now)) c.loop-i.i c.read_entry.new.x
    (g.F.PageRead.place c.args.low.now) (g.F.PageRead.place c.loop-i.low) c.args.visitor.now c.loop-i.visitor c.loop-i.invariant c.read_entry.ensures c.entry.new.self (sym c.takes_entry.ensures ∙ c.if-not-takes_entry.false)

pub loop-i-preserved : goal.loop-i-preserved
loop-i-preserved g c =
    row_seen g.F.PageForm.scale g.W.Visitor.sees_page g.W.Visitor.sees_entry c.args.page (rows_in (g.F.PageForm.node c.args.form.now c.args.bytes.now)) c.loop-i.i c.read_entry.new.x
    (g.F.PageRead.place c.args.low.now) (g.F.PageRead.place c.loop-i.low) c.args.visitor.now c.loop-i.visitor c.loop-i.invariant c.read_entry.ensures c.entry.new.self (g.F.PageRead.place c.pass.new.low)
    (sym c.takes_entry.ensures ∙ c.if-not-takes_entry.false) c.in-Ok.ensures c.pass.ensures
