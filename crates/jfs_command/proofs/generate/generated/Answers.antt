use Rattle.std.proofs.Common.{◌∙◌, sym, arith}
use Rattle.jfs_command.proofs.Generating.{none_made, one_made, all_made, made_plan}
use Rattle.jfs_command.proofs.generate.generated.Goals as goal

pub loop-i-init : goal.loop-i-init
loop-i-init c = rw c.new-plan.ensures.items (none_made c.args.number c.args.calls c.args.clients)

pub loop-i-preserved : goal.loop-i-preserved
loop-i-preserved c =
    let e = c.in_ok-script.ensures in
    rw c.in_ok-push.ensures.items (one_made c.args.number c.args.calls c.args.clients c.loop-i.i c.loop-i.plan.items c.in_ok-script.script c.loop-i-test.true c.requires.calls c.loop-i.invariant e.lines e.fit (sym c.in_ok-script.script.ok.0 ∙ e.count))

pub returns-clause-scripts : goal.returns-clause-scripts
returns-clause-scripts c = all_made c.args.number c.args.calls c.args.clients c.loop-i.i c.loop-i.plan.items c.loop-i-test.false c.loop-i.auto.i-end c.loop-i.invariant

pub returns-clause-plan : goal.returns-clause-plan
returns-clause-plan c = let most = c.loop-i.auto.i-end in made_plan c.args.number c.args.calls c.args.clients c.loop-i.i c.loop-i.plan.items (omega (arith, c.requires.clients.0, c.loop-i-test.false)) (omega (arith, most, c.requires.clients.1)) c.loop-i.invariant
