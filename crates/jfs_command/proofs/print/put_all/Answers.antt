use Rattle.std.proofs.Common.{arith}
use Rattle.std.proofs.lemmas.List.{take_rest}
use Rattle.jfs_command.proofs.Printing.{goes_on}
use Rattle.jfs_command.proofs.print.put_all.Goals as goal

pub loop-rest-preserved : goal.loop-rest-preserved
loop-rest-preserved g c =
    let k = g.K.Sink in
    let rest = c.loop-rest.rest.now in
    rw (take_rest rest c.in_ok-count.count)
    (goes_on k.tells (k.taken c.args.out.now) (k.taken c.loop-rest.out) (k.taken c.put.new.self) (k.fault_count c.args.out.now) (k.fault_count c.loop-rest.out) (k.fault_count c.put.new.self) c.args.text.now rest c.in_ok-count.count c.loop-rest.invariant c.in_ok-count.ensures.bytes (c.in_ok-count.ensures.same (omega (arith, c.if-count-eq0.false))))

pub returns-clause-same : goal.returns-clause-same
returns-clause-same g c = c.loop-rest.invariant.same
