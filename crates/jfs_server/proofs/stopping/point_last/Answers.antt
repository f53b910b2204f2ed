use Rattle.std.proofs.Common.{inl, inr, ap, refl}
use Rattle.std.specs.Prelude.{is_some}
use Rattle.jfs_server.proofs.Settling.{pointed, partly, all_pointed}
use Rattle.jfs_server.proofs.stopping.point_last.Goals as goal

pub returns-in-Ok-clause-list : goal.returns-in-Ok-clause-list
returns-in-Ok-clause-list g c n are = pointed g.D.Disk c.point_with.new.shared c.point_with.new.log n (c.in-Ok.ensures.point n are)

pub returns-in-Ok-clause-left : goal.returns-in-Ok-clause-left
returns-in-Ok-clause-left g c = λ other. absurd (other refl)

pub returns-in-Ok-clause-durable : goal.returns-in-Ok-clause-durable
returns-in-Ok-clause-durable g c = let t = c.requires.together in inl (all_pointed g.D.Disk c.point_with.new.shared c.point_with.new.log t.0 (c.in-Ok.ensures.point t.0 t.1))

pub returns-in-Err-clause-list : goal.returns-in-Err-clause-list
returns-in-Err-clause-list g c n are = partly g.D.Disk c.point_with.new.shared c.point_with.new.log n (c.in-Err.ensures.point n are)

pub returns-in-Err-clause-durable : goal.returns-in-Err-clause-durable
returns-in-Err-clause-durable g c = inr (inl (ap is_some c.in-Err.ensures.halts))
