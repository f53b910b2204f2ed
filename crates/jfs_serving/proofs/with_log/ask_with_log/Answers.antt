use Rattle.std.proofs.Common.{ap, ◌∙◌, subst, false}
use Rattle.jfs_turns.specs.Both.{whole}
use Rattle.jfs_turns.specs.declared.view.View.{View}
use Rattle.jfs_groups.specs.Log.{standing}
use Rattle.jfs_groups.proofs.Views.{onwards, learned, learned_log}
use Rattle.jfs_serving.specs.Calls.{asked}
use Rattle.jfs_serving.specs.Gave.{HasJoined}
use Rattle.jfs_serving.proofs.Joining.{keeps_on, keeps_of, keeps_with_both, given_both, has_joined}
use Rattle.jfs_serving.proofs.Lending.{knows_both, log_stands}
use Rattle.jfs_serving.proofs.with_log.ask_with_log.Goals as goal

pub call_lent-requires-clause-stand : goal.call_lent-requires-clause-stand
call_lent-requires-clause-stand g c =
    let client = g.E.HasClient.client in
    let log = c.take_log-turn in
    let both = c.add_volume-both in
    let u = whole both.result in
    let has = log.result.has.0.3 in
    record {
      volume = both.ensures.stands;
      log = log_stands client (standing g.D.Disk g.E.HasRecords.logs g.E.HasRecords.start) log.result.value both.result.log.value log.result.seat.me (u, both.result.log.seat.me.1) log.ensures.stands both.ensures.same.0 both.ensures.learned has;
      knows = knows_both client c.args.pass.seat.me log.result.seat.me (u, both.result.log.seat.me.1) log.ensures.learned both.ensures.learned has;
    }

pub returns-in-Replied-clause-keeps : goal.returns-in-Replied-clause-keeps
returns-in-Replied-clause-keeps g c =
    let client = g.E.HasClient.client in
    let v = c.args.pass.seat.me in
    let m = c.take_log-turn.result.seat.me in
    let both = c.add_volume-both in
    let u = whole both.result in
    let lent = whole c.call_lent.new.both in
    let goes = onwards client v.0 m.0 lent (learned_log client v m c.take_log-turn.ensures.learned) (onwards client m.0 u lent (learned client m (u, both.result.log.seat.me.1) both.ensures.learned) c.call_lent.ensures.goes_on) in
    let told = c.count_both.ensures.told in
    keeps_on v.0 lent c.give_both-pass.result.seat.me.0 (keeps_of client v.0 lent goes)
    (keeps_with_both lent c.give_both-pass.result.seat.me.0 told.0 (c.give_both-pass.ensures.told ∙ ap (λ (z : View g.row.E.Denot). record z { volume = false; appends = false; log = false }) told.2))

pub returns-in-Replied-clause-gave : goal.returns-in-Replied-clause-gave
returns-in-Replied-clause-gave g c =
    let client = g.E.HasClient.client in
    let v = c.args.pass.seat.me in
    let m = c.take_log-turn.result.seat.me in
    let both = c.add_volume-both in
    let u = whole both.result in
    let lent = whole c.call_lent.new.both in
    let goes = onwards client v.0 m.0 lent (learned_log client v m c.take_log-turn.ensures.learned) (onwards client m.0 u lent (learned client m (u, both.result.log.seat.me.1) both.ensures.learned) c.call_lent.ensures.goes_on) in
    let told = c.count_both.ensures.told in
    let asks = c.in-Replied.ensures.asks in
    let w = c.give_both-pass in
    subst (λ n. HasJoined client g.V.Serves.entry g.V.Serves.moment g.V.Stands.stands g.V.Serves.answers (asked n c.args.line c.args.request.now c.args.now) c.in-Replied.reply c.in-Replied.entry c.in-Replied.waits v.0 w.result.seat.me.0) c.client-client.ensures
    (has_joined client g.V.Serves.entry g.V.Serves.moment g.V.Stands.stands g.V.Serves.answers (asked c.client-client.result c.args.line c.args.request.now c.args.now) c.in-Replied.reply c.in-Replied.entry c.in-Replied.waits v.0 lent w.result.seat.me.0 c.call_lent.new.both.volume.value told.0
    goes told.1 (ap (λ z. z.list) w.ensures.told ∙ ap (λ z. z.list) told.2) asks.2 asks.3)

pub returns-in-NeedsLog-clause-keeps : goal.returns-in-NeedsLog-clause-keeps
returns-in-NeedsLog-clause-keeps g c =
    let client = g.E.HasClient.client in
    let v = c.args.pass.seat.me in
    let m = c.take_log-turn.result.seat.me in
    let both = c.add_volume-both in
    let u = whole both.result in
    let lent = whole c.call_lent.new.both in
    let w = c.give_both.result.seat.me.0 in
    keeps_of client v.0 w (onwards client v.0 m.0 w (learned_log client v m c.take_log-turn.ensures.learned) (onwards client m.0 u w (learned client m (u, both.result.log.seat.me.1) both.ensures.learned) (onwards client u lent w c.call_lent.ensures.goes_on (given_both client lent w c.give_both.ensures.told))))

pub returns-in-NeedsLog-clause-gave : goal.returns-in-NeedsLog-clause-gave
returns-in-NeedsLog-clause-gave g c =
    let client = g.E.HasClient.client in
    let v = c.args.pass.seat.me in
    let m = c.take_log-turn.result.seat.me in
    let both = c.add_volume-both in
    let u = whole both.result in
    let lent = whole c.call_lent.new.both in
    let w = c.give_both.result.seat.me.0 in
    (onwards client v.0 m.0 w (learned_log client v m c.take_log-turn.ensures.learned) (onwards client m.0 u w (learned client m (u, both.result.log.seat.me.1) both.ensures.learned) (onwards client u lent w c.call_lent.ensures.goes_on (given_both client lent w c.give_both.ensures.told)))).list

pub returns-in-NoMemory-clause-keeps : goal.returns-in-NoMemory-clause-keeps
returns-in-NoMemory-clause-keeps g c =
    let client = g.E.HasClient.client in
    let v = c.args.pass.seat.me in
    let m = c.take_log-turn.result.seat.me in
    let both = c.add_volume-both in
    let u = whole both.result in
    let lent = whole c.call_lent.new.both in
    let w = c.give_both-in-NoMemory.result.seat.me.0 in
    keeps_of client v.0 w (onwards client v.0 m.0 w (learned_log client v m c.take_log-turn.ensures.learned) (onwards client m.0 u w (learned client m (u, both.result.log.seat.me.1) both.ensures.learned) (onwards client u lent w c.call_lent.ensures.goes_on (given_both client lent w c.give_both-in-NoMemory.ensures.told))))

pub returns-in-NoMemory-clause-gave : goal.returns-in-NoMemory-clause-gave
returns-in-NoMemory-clause-gave g c =
    let client = g.E.HasClient.client in
    let v = c.args.pass.seat.me in
    let m = c.take_log-turn.result.seat.me in
    let both = c.add_volume-both in
    let u = whole both.result in
    let lent = whole c.call_lent.new.both in
    let w = c.give_both-in-NoMemory.result.seat.me.0 in
    (onwards client v.0 m.0 w (learned_log client v m c.take_log-turn.ensures.learned) (onwards client m.0 u w (learned client m (u, both.result.log.seat.me.1) both.ensures.learned) (onwards client u lent w c.call_lent.ensures.goes_on (given_both client lent w c.give_both-in-NoMemory.ensures.told)))).list
