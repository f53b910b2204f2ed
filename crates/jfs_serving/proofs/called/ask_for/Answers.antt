use Rattle.std.proofs.Common.{subst}
use Rattle.jfs_groups.specs.Log.{standing}
use Rattle.jfs_serving.specs.Calls.{asked}
use Rattle.jfs_serving.specs.Gave.{GaveIs}
use Rattle.jfs_serving.proofs.Joining.{keeps_on}
use Rattle.jfs_serving.proofs.Ending.{gave_later}
use Rattle.jfs_serving.proofs.called.ask_for.Goals as goal

pub returns-in-NeedsLog-clause-keeps : goal.returns-in-NeedsLog-clause-keeps
returns-in-NeedsLog-clause-keeps g c = keeps_on c.args.pass.seat.me.0 c.ask_alone-given.result.1.seat.me.0 c.ask_with_log.result.1.seat.me.0 c.ask_alone-given.ensures.keeps c.ask_with_log.ensures.keeps

pub returns-in-NeedsLog-clause-gave : goal.returns-in-NeedsLog-clause-gave
returns-in-NeedsLog-clause-gave g c =
    let first = c.ask_alone-given in
    let client = g.E.HasClient.client in
    let entry = g.V.Serves.entry in
    let moment = g.V.Serves.moment in
    let stands = g.V.Stands.stands in
    let answers = g.V.Serves.answers in
    let a = asked c.args.pass.client c.args.line c.args.request.now c.args.now in
    gave_later client entry moment stands (standing g.D.Disk g.E.HasRecords.logs g.E.HasRecords.start) answers (λ y. y.side.halted) a c.ask_with_log.result.0 c.args.pass.seat.me.0 first.result.1.seat.me.0 c.ask_with_log.result.1.seat.me.0
    (subst (λ given. GaveIs client entry moment stands answers a c.args.pass.seat.me.0 first.result.1.seat.me.0 given) c.in-NeedsLog.is first.ensures.gave) first.ensures.keeps
    (subst (λ n. GaveIs client entry moment stands answers (asked n c.args.line c.args.request.now c.args.now) first.result.1.seat.me.0 c.ask_with_log.result.1.seat.me.0 c.ask_with_log.result.0) first.ensures.same.1 c.ask_with_log.ensures.gave)
