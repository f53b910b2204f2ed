use Rattle.std.proofs.Common.{arith, length}
use Rattle.jfs_records.proofs.SoFar.{more, goes_on, finishes}
use Rattle.jfs_records.proofs.write.push_records.Goals as goal

pub address-back-requires-clause-some : goal.address-back-requires-clause-some
address-back-requires-clause-some c =
    rw (c.bytes.ensures, c.bytes-start.ensures) (more c.args.at c.args.into.now.bytes.items c.loop-r.into.bytes.items c.push.new.self.bytes.items c.stamp.new.r c.in_ok-push.ensures.bytes c.loop-r.invariant.long)

pub loop-r-preserved : goal.loop-r-preserved
loop-r-preserved c =
    rw (c.address-back.ensures, c.bytes.ensures)
    (goes_on c.args.ring c.args.number c.args.at c.args.records.now c.args.into.now.bytes.items c.loop-r.records c.loop-r.into.bytes.items c.args.into.now.ends.items c.loop-r.into.ends.items c.loop-r.back (length c.bytes-start.result.now) c.loop-r.r-index c.r-item.result c.stamp.new.r c.push.new.self.bytes.items c.push.new.self.ends.items
    c.loop-r.invariant (omega (arith, c.loop-r-test.true, c.loop-r.auto.records)) c.r-item.is c.stamp.ensures c.in_ok-push.ensures.bytes c.in_ok-push.ensures.ends)

pub returns-clause-ends : goal.returns-clause-ends
returns-clause-ends c =
    finishes c.push-2.result c.args.ring c.args.number c.args.at c.args.records.now c.args.into.now.bytes.items c.loop-r.records c.loop-r.into.bytes.items c.args.into.now.ends.items c.loop-r.into.ends.items c.loop-r.back (length c.bytes-start.result.now) c.loop-r.r-index c.push-2.new.self.bytes.items c.push-2.new.self.ends.items
    c.loop-r.invariant c.loop-r-test.false c.push-2.ensures.bytes c.push-2.ensures.ends
