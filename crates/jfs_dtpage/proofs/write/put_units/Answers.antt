use Rattle.std.proofs.Common.{arith}
use Rattle.jfs_dtpage.proofs.Lists.{units_from}
use Rattle.jfs_dtpage.proofs.write.put_units.Goals as goal

pub returns-clause-units : goal.returns-clause-units
returns-clause-units c = units_from c.loop-i.bytes c.args.units.now c.args.at (λ i h. c.loop-i.invariant.0 i (let e = c.loop-i-test.false in omega (arith, e, h)))
