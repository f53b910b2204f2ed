use Rattle.std.proofs.Common.{arith}
use Rattle.std.proofs.lemmas.Result.{err_from_is_err_and}
use Rattle.jfs_command.proofs.Scripted.{one_read, one_failed, all_read, plan_is, same_faults, grows, too_many, no_memory}
use Rattle.jfs_command.proofs.scripts.read_scripts.Goals as goal

pub returns-then-count-gt-MOST_SCRIPTS-clause-ends : goal.returns-then-count-gt-MOST_SCRIPTS-clause-ends
returns-then-count-gt-MOST_SCRIPTS-clause-ends g c = too_many g.S.Source c.args.scripts.now.items c.len-count.result (let e = c.len-count.ensures in grind (arith, e)) c.if-count-gt-MOST_SCRIPTS.true

pub returns-in_err-lines-clause-ends : goal.returns-in_err-lines-clause-ends
returns-in_err-lines-clause-ends g c =
    let inv = c.loop-i.invariant in
    let ends = c.in_err-lines.ensures.ends in
    let p = err_from_is_err_and c.from_residual.result c.from_residual.ensures.1 in
    rw (p.1, p.2)
    (one_failed g.S.Source c.args.scripts.now.items c.loop-i.scripts.items c.loop-i.i c.loop-i.plan.items inv.read (omega (arith, c.loop-i-test.true, inv.count, inv.read.size)) c.index_mut.result.now c.index_mut.ensures.value c.read_one.new.script
    c.in_err-lines.field-0.0 ends.0 (omega (arith, inv.few, inv.count)) ends.1 ends.2)

pub returns-in_err-lines-clause-later : goal.returns-in_err-lines-clause-later
returns-in_err-lines-clause-later g c =
    let inv = c.loop-i.invariant in
    grows g.S.Source c.args.scripts.now.items c.loop-i.scripts.items c.loop-i.i c.loop-i.plan.items inv.read (omega (arith, c.loop-i-test.true, inv.count, inv.read.size)) c.index_mut.result.now c.index_mut.ensures.value c.read_one.new.script c.read_one.ensures.later

pub returns-in-Err-clause-ends : goal.returns-in-Err-clause-ends
returns-in-Err-clause-ends g c = let none = no_memory g.S.Source c.args.scripts.now.items c.args.scripts.now.items in (none.0, none.1, none.2, tt)

pub returns-in-Err-clause-later : goal.returns-in-Err-clause-later
returns-in-Err-clause-later g c =
    let inv = c.loop-i.invariant in
    grows g.S.Source c.args.scripts.now.items c.loop-i.scripts.items c.loop-i.i c.loop-i.plan.items inv.read (omega (arith, c.loop-i-test.true, inv.count, inv.read.size)) c.index_mut.result.now c.index_mut.ensures.value c.read_one.new.script c.read_one.ensures.later

pub loop-i-preserved : goal.loop-i-preserved
loop-i-preserved g c =
    let inv = c.loop-i.invariant in
    let ends = c.in_ok-lines.ensures.ends in
    record {
      read = rw c.in-Ok.ensures.items (one_read g.S.Source c.args.scripts.now.items c.loop-i.scripts.items c.loop-i.i c.loop-i.plan.items inv.read (omega (arith, c.loop-i-test.true, inv.count, inv.read.size)) c.index_mut.result.now c.index_mut.ensures.value c.read_one.new.script
          c.in_ok-lines.lines ends.0 ends.1 ends.2.0 ends.2.1 c.in_ok-lines.ensures.lines);
      count = inv.count;
      some = inv.some;
      few = inv.few;
    }

pub returns-clause-ends : goal.returns-clause-ends
returns-clause-ends g c =
    let inv = c.loop-i.invariant in
    all_read g.S.Source c.args.scripts.now.items c.loop-i.scripts.items c.loop-i.i c.loop-i.plan inv.read (omega (arith, c.loop-i-test.false, inv.count)) (omega (arith, c.loop-i.auto.i-end, inv.count)) (omega (arith, inv.some, inv.count)) (omega (arith, inv.few, inv.count))

pub returns-clause-plan : goal.returns-clause-plan
returns-clause-plan g c = plan_is g.S.Source c.args.scripts.now.items c.loop-i.scripts.items c.loop-i.i c.loop-i.plan.items c.loop-i.invariant.read (omega (arith, c.loop-i-test.false, c.loop-i.invariant.some)) (omega (arith, c.loop-i.auto.i-end, c.loop-i.invariant.few))

pub returns-clause-later : goal.returns-clause-later
returns-clause-later g c = same_faults g.S.Source c.args.scripts.now.items c.loop-i.scripts.items c.loop-i.i c.loop-i.plan.items c.loop-i.invariant.read
