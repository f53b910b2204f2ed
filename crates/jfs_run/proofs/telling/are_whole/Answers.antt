use Rattle.std.proofs.Common.{List, sym, subst, arith}
use Rattle.std.specs.Global.{Vec}
use Rattle.std.specs.Prelude.{Bool}
use Rattle.jfs_plain.specs.declared.call.Line.{Line}
use Rattle.jfs_run.specs.Telling.{AreAsMany}
use Rattle.jfs_run.proofs.Reading.{next_in, none_in}
use Rattle.jfs_run.proofs.telling.are_whole.Goals as goal

pub loop-i-init : goal.loop-i-init
loop-i-init c = λ all. all

pub loop-i-preserved : goal.loop-i-preserved
loop-i-preserved c = λ rest.
    let i = c.loop-i.i in
    let script = c.index-scripts-i.result in
    let marks = c.index-marks-i.result in
    let there = c.loop-i-test.true in
    let as_many = c.if-scripts-marks.false in
    c.loop-i.invariant
    (subst {A = List (Vec Line) × List (Vec Bool)} (λ z. AreAsMany z.0 z.1) (λ j. (sym (next_in c.args.scripts.now i script there c.index-scripts-i.is) j, sym (next_in c.args.marks.now i marks (omega (arith, there, as_many)) c.index-marks-i.is) j))
    (let a = c.if-len.false in let b = c.len.ensures in let d = c.len-in-loop-i.ensures in omega (arith, a, b, d), rest))

pub returns : goal.returns
returns c = λ _.
    let past = c.loop-i-test.false in
    let as_many = c.if-scripts-marks.false in
    c.loop-i.invariant
    (subst {A = List (Vec Line) × List (Vec Bool)} (λ z. AreAsMany z.0 z.1) (λ j. (sym (none_in c.args.scripts.now c.loop-i.i past) j, sym (none_in c.args.marks.now c.loop-i.i (omega (arith, past, as_many))) j)) tt)
