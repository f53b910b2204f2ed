use Rattle.std.proofs.Common.{length, refl, inl, ◌-◌, arith}
use Rattle.jfs_logpages.specs.Fresh.{IsOutside}
use Rattle.jfs_logpages.proofs.Histories.{last-history}
use Rattle.jfs_logpages.specs.Ring.{ends_with}
use Rattle.jfs_groups.proofs.log.SharedLog.write.Goals as goal

pub returns-in-Ok-clause-written : goal.returns-in-Ok-clause-written
returns-in-Ok-clause-written g c = let e = c.in-Ok.ensures in record {
  ring = e.size.0;
  pages = e.size.1;
  faults = e.durable.2;
  place = e.position;
  durable = e.durable.0;
  points = refl;
  runs = e.durable.1;
  holds = λ t before ends h. (ends_with (length before) ends c.args.group.now.ends.items, (e.holds t before ends h).0);
  resting = e.resting;
  super = λ k rests. last-history (IsOutside 2 c.args.self.now.side.last.ring) (g.D.Disk.past c.args.self.now.side.part) (g.D.Disk.past c.write_group.new.self.part) 1 (g.met.D.Disk.has_state c.args.self.now.side.part k) (e.past k rests) (inl (omega arith));
}

pub returns-in-Err-clause-lost : goal.returns-in-Err-clause-lost
returns-in-Err-clause-lost g c = let e = c.in-Err.ensures in record {
  ring = e.size.0;
  pages = e.size.1;
  rose = e.cause.0;
  durable = e.halts.1;
  points = refl;
  halts = e.halts.0;
  is = e.cause.1;
  leaves = λ t k before ends holds rests left crash. e.moments t k before ends holds rests left
      (record { moment = length (g.D.Disk.past c.write_group.new.self.part) - 1; since = let longer = (e.past k rests).longer in omega (arith, longer); reached = let some = g.met.D.Disk.has_state c.write_group.new.self.part k in omega (arith, some); crash = crash });
  super = λ k rests. last-history (IsOutside 2 c.args.self.now.side.last.ring) (g.D.Disk.past c.args.self.now.side.part) (g.D.Disk.past c.write_group.new.self.part) 1 (g.met.D.Disk.has_state c.args.self.now.side.part k) (e.past k rests) (inl (omega arith));
}
