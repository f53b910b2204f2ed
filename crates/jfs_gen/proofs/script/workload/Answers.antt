use Rattle.std.proofs.Common.{ap, ◌∙◌, sym, refl, subst, length}
use Rattle.jfs_gen.specs.Limits.{AllFit}
use Rattle.jfs_gen.specs.Workload.{lines_of}
use Rattle.jfs_gen.proofs.Lines.{goes_on, ends, all_fit, count_of_lines}
use Rattle.jfs_gen.proofs.script.workload.Goals as goal

pub loop-i-preserved : goal.loop-i-preserved
loop-i-preserved c =
    rw c.next-x.ensures
    (goes_on c.args.client c.args.calls c.loop-i.i c.loop-i.x c.loop-i.lines.items c.push-in-loop-i.new.self.items (lines_of c.args.number c.args.client c.args.calls) c.loop-i-test.true c.loop-i.invariant
    (c.in_ok-push-2.ensures.items ∙ rw (c.line-in-loop-i.ensures, c.in_ok-call.ensures, c.next-x.ensures) refl))

pub returns-clause-fit : goal.returns-clause-fit
returns-clause-fit c =
    subst AllFit (sym (ends c.args.client c.args.calls c.loop-i.i c.loop-i.x c.loop-i.lines.items c.push-2.new.self.items (lines_of c.args.number c.args.client c.args.calls) c.loop-i-test.false c.loop-i.auto.i-end c.loop-i.invariant
    (c.in_ok-push-3.ensures.items ∙ rw c.line-2.ensures refl)))
    (all_fit c.args.number c.args.client c.args.calls c.requires.client)

pub returns-clause-count : goal.returns-clause-count
returns-clause-count c =
    let whole = ends c.args.client c.args.calls c.loop-i.i c.loop-i.x c.loop-i.lines.items c.push-2.new.self.items (lines_of c.args.number c.args.client c.args.calls) c.loop-i-test.false c.loop-i.auto.i-end c.loop-i.invariant
    (c.in_ok-push-3.ensures.items ∙ rw c.line-2.ensures refl) in
    c.push-2.new.self.ok.0 ∙ (ap length whole ∙ count_of_lines c.args.number c.args.client c.args.calls)
