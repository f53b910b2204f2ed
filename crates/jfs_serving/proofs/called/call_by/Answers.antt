use Rattle.jfs_groups.specs.Log.{standing}
use Rattle.jfs_serving.specs.Calls.{asked}
use Rattle.jfs_serving.proofs.Joining.{keeps_on, keeps_of}
use Rattle.jfs_serving.proofs.Ending.{known_of, ended}
use Rattle.jfs_serving.proofs.called.call_by.Goals as goal

pub acknowledge-requires-clause-known : goal.acknowledge-requires-clause-known
acknowledge-requires-clause-known g c κs within = known_of g.E.HasClient.client g.V.Serves.entry g.V.Serves.moment g.V.Stands.stands (standing g.D.Disk g.E.HasRecords.logs g.E.HasRecords.start) g.V.Serves.answers (λ y. y.side.halted)
    (asked c.args.pass.client c.args.line c.args.request.now c.args.now) c.ask_for-given.result.0 c.args.pass.seat.me.0 c.ask_for-given.result.1.seat.me.0 c.ask_for-given.ensures.gave

pub returns-clause-keeps : goal.returns-clause-keeps
returns-clause-keeps g c =
    let u = c.ask_for-given.result.1.seat.me.0 in
    let w = c.acknowledge.result.2.seat.me.0 in
    keeps_on c.args.pass.seat.me.0 u w c.ask_for-given.ensures.keeps (keeps_of g.E.HasClient.client u w c.acknowledge.ensures.goes_on)

pub returns-clause-called : goal.returns-clause-called
returns-clause-called g c =
    let first = c.ask_for-given in
    let last = c.acknowledge in
    ended g.E.HasClient.client g.V.Serves.entry g.V.Serves.moment g.V.Stands.stands (standing g.D.Disk g.E.HasRecords.logs g.E.HasRecords.start) g.V.Serves.answers (λ y. y.side.halted)
    (asked c.args.pass.client c.args.line c.args.request.now c.args.now) first.result.0 last.result.0 last.result.1 c.args.pass.seat.me.0 first.result.1.seat.me.0 last.result.2.seat.me.0 c.args.pass.calls_left first.result.1.calls_left last.result.2.calls_left
    first.ensures.gave first.ensures.keeps first.ensures.left last.ensures.same.2 last.ensures.goes_on last.ensures.ends
