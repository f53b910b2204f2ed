use Rattle.std.proofs.Common.{drop, arith}
use Rattle.jfs_xtpage.specs.Page.{entries_of}
use Rattle.jfs_xtree.proofs.CutFrees.{run_pushed, runs_pushed}
use Rattle.jfs_xtree.proofs.free_below.push_runs.Goals as goal

pub loop-i-preserved : goal.loop-i-preserved
loop-i-preserved c =
    run_pushed c.args.bytes.now c.loop-i.i c.xt_entry.result c.loop-i.runs c.push.new.self c.args.runs.now (drop c.args.from (entries_of c.args.bytes.now)) (let t = c.loop-i-test.true in let v = c.get_u16-count.ensures.value in omega (arith, t, v))
    c.xt_entry.ensures.value c.in-Ok.ensures.ok c.loop-i.invariant

pub returns-clause-runs : goal.returns-clause-runs
returns-clause-runs c =
    let v = c.get_u16-count.ensures.value in let p = c.requires.place in
    runs_pushed c.args.bytes.now c.loop-i.i c.loop-i.runs c.args.runs.now (drop c.args.from (entries_of c.args.bytes.now)) (let t = c.loop-i-test.false in omega (arith, t, v))
    (let e = c.loop-i.auto.i-end (omega (arith, v, p)) in omega (arith, e, v)) c.loop-i.invariant
