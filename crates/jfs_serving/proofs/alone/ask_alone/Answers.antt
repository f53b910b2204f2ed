use Rattle.std.proofs.Common.{sym, ap, ◌∙◌, subst}
use Rattle.jfs_groups.proofs.Views.{onwards, learned}
use Rattle.jfs_turns.specs.Standing.{VolumeStands}
use Rattle.jfs_serving.specs.Calls.{asked}
use Rattle.jfs_serving.specs.Gave.{HasJoined}
use Rattle.jfs_serving.proofs.Joining.{told_stands, saw_goes, joined, has_joined, stays_stands}
use Rattle.jfs_serving.proofs.alone.ask_alone.Goals as goal

pub count_entry-requires-clause-said : goal.count_entry-requires-clause-said
count_entry-requires-clause-said g c =
    let turn = c.take_volume-turn in
    let saw = c.settled-durable in
    let stands = told_stands g.V.Stands.stands turn.result.value saw.new.turn.value c.told.new.self turn.result.seat.me saw.new.turn.seat.me saw.result saw.ensures.told turn.ensures.stands saw.ensures.same.3 c.told.ensures.tells in
    let list = c.in-Replied.ensures.list in
    let j = joined g.E.HasClient.client g.V.Serves.entry g.V.Serves.moment g.V.Stands.stands g.V.Serves.answers (asked c.client-client.result c.args.line c.args.request.now c.args.now) c.in-Replied.reply c.in-Replied.entry c.in-Replied.waits
    saw.new.turn.seat.me.0 c.told.new.self c.call.new.self list.0 stands list.1 list.2 c.in-Replied.ensures.answers in
    (list.0, j.0, list.1.client_is ∙ (c.client-client.ensures ∙ sym (saw.ensures.same.1 ∙ turn.ensures.turn.1)))

pub give_volume-requires-clause-stands : goal.give_volume-requires-clause-stands
give_volume-requires-clause-stands g c =
    let turn = c.take_volume-turn in
    let saw = c.settled-durable in
    let stands = told_stands g.V.Stands.stands turn.result.value saw.new.turn.value c.told.new.self turn.result.seat.me saw.new.turn.seat.me saw.result saw.ensures.told turn.ensures.stands saw.ensures.same.3 c.told.ensures.tells in
    stays_stands g.V.Stands.stands c.told.new.self c.call.new.self saw.new.turn.seat.me.0 c.in-NeedsLog.ensures.list stands

pub give_volume-requires-in-NoMemory-clause-stands :
    goal.give_volume-requires-in-NoMemory-clause-stands
give_volume-requires-in-NoMemory-clause-stands g c =
    let turn = c.take_volume-turn in
    let saw = c.settled-durable in
    let stands = told_stands g.V.Stands.stands turn.result.value saw.new.turn.value c.told.new.self turn.result.seat.me saw.new.turn.seat.me saw.result saw.ensures.told turn.ensures.stands saw.ensures.same.3 c.told.ensures.tells in
    stays_stands g.V.Stands.stands c.told.new.self c.call.new.self saw.new.turn.seat.me.0 c.in-NoMemory.ensures.list stands

pub give_volume-pass-requires-clause-stands : goal.give_volume-pass-requires-clause-stands
give_volume-pass-requires-clause-stands g c =
    let told = c.count_entry.ensures.told.1 in
    subst (λ x. VolumeStands g.V.Stands.stands x c.count_entry.new.turn.seat.me.0) (sym c.count_entry.ensures.same.1)
    (subst (λ z. VolumeStands g.V.Stands.stands c.call.new.self z) (sym told.2) told.1.stands)

pub returns-in-Replied-clause-gave : goal.returns-in-Replied-clause-gave
returns-in-Replied-clause-gave g c =
    let turn = c.take_volume-turn in
    let saw = c.settled-durable in
    let client = g.E.HasClient.client in
    let stands = told_stands g.V.Stands.stands turn.result.value saw.new.turn.value c.told.new.self turn.result.seat.me saw.new.turn.seat.me saw.result saw.ensures.told turn.ensures.stands saw.ensures.same.3 c.told.ensures.tells in
    let a = asked c.client-client.result c.args.line c.args.request.now c.args.now in
    let list = c.in-Replied.ensures.list in
    let number = (joined client g.V.Serves.entry g.V.Serves.moment g.V.Stands.stands g.V.Serves.answers a c.in-Replied.reply c.in-Replied.entry c.in-Replied.waits
    saw.new.turn.seat.me.0 c.told.new.self c.call.new.self list.0 stands list.1 list.2 c.in-Replied.ensures.answers).1 in
    let told = c.count_entry.ensures.told.1 in
    subst (λ n. HasJoined client g.V.Serves.entry g.V.Serves.moment g.V.Stands.stands g.V.Serves.answers (asked n c.args.line c.args.request.now c.args.now) c.in-Replied.reply c.in-Replied.entry c.in-Replied.waits c.args.pass.seat.me.0 c.give_volume-pass.result.seat.me.0) c.client-client.ensures
    (has_joined client g.V.Serves.entry g.V.Serves.moment g.V.Stands.stands g.V.Serves.answers a c.in-Replied.reply c.in-Replied.entry c.in-Replied.waits c.args.pass.seat.me.0 saw.new.turn.seat.me.0 c.give_volume-pass.result.seat.me.0 c.call.new.self told.0
    (onwards client c.args.pass.seat.me.0 turn.result.seat.me.0 saw.new.turn.seat.me.0 (learned client c.args.pass.seat.me turn.result.seat.me turn.ensures.learned) (saw_goes g.V.Stands.stands client turn.result.seat.me saw.new.turn.seat.me saw.result saw.ensures.told))
    told.1 (ap (λ z. z.0.list) c.give_volume-pass.ensures.told ∙ ap (λ z. z.list) told.2) number list.3)
