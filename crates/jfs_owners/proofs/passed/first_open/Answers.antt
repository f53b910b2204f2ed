use Rattle.std.proofs.Common.{arith, ◌≤◌, ◌<◌, length}
use Rattle.jfs_owners.proofs.Passes.{shared_on}
use Rattle.jfs_owners.proofs.passed.first_open.Goals as goal

pub loop-at-preserved : goal.loop-at-preserved
loop-at-preserved c = record {
  size = c.loop-at.invariant.size;
  from = (let f = c.loop-at.invariant.from in let t = c.if-next-at.false in omega (arith, f, t));
  most = c.loop-at.invariant.ends c.loop-at.at c.loop-at-test.true;
  ends = c.loop-at.invariant.ends;
  passed = λ shared p. shared_on shared c.args.group c.loop-at.at _ (c.loop-at.invariant.passed shared p) (c.loop-at.invariant.passes shared p c.loop-at.at c.loop-at-test.true);
  passes = λ shared p. c.loop-at.invariant.passes shared p;
}
