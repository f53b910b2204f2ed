use Rattle.std.proofs.Common.{inl, inr, ap}
use Rattle.std.specs.Prelude.{is_some}
use Rattle.jfs_server.proofs.Settling.{committed, lost, all_committed}
use Rattle.jfs_server.proofs.stopping.commit_last.Goals as goal

pub returns-in-Ok-clause-list : goal.returns-in-Ok-clause-list
returns-in-Ok-clause-list g c n are = committed g.D.Disk c.commit_with.new.shared c.commit_with.new.log n (c.in-Ok.ensures.commit n are)

pub returns-in-Ok-clause-durable : goal.returns-in-Ok-clause-durable
returns-in-Ok-clause-durable g c = let t = c.requires.together in inl (all_committed g.D.Disk c.commit_with.new.shared c.commit_with.new.log t.0 (c.in-Ok.ensures.commit t.0 t.1))

pub returns-in-Err-clause-list : goal.returns-in-Err-clause-list
returns-in-Err-clause-list g c n are = lost g.D.Disk c.commit_with.new.shared c.commit_with.new.log n are.told_within (c.in-Err.ensures.commit n are)

pub returns-in-Err-clause-durable : goal.returns-in-Err-clause-durable
returns-in-Err-clause-durable g c = inr (inr (ap is_some c.in-Err.ensures.halts.0))
