use Rattle.std.proofs.Common.{rules, arith, ap, sym, ◌∙◌, ◌<◌, length}
use Rattle.jfs_groups.specs.Log.{standing}
use Rattle.jfs_groups.proofs.Views.{looked, exact_log}
use Rattle.jfs_groups.proofs.Leading.{has_failed, led_commits}
use Rattle.jfs_groups.proofs.commit.commit_up_to.Goals as goal

pub returns-then-durable-n-2-clause-goes_on : goal.returns-then-durable-n-2-clause-goes_on
returns-then-durable-n-2-clause-goes_on g c = looked g.E.HasClient.client c.args.pass.seat.me c.durable.new.pass.seat.me c.take_log-turn.result.seat.me c.durable.result c.give_log.result.seat.me.0 c.durable.ensures.told c.take_log-turn.ensures.learned (ap (λ x. x.0) c.give_log.ensures.told)

pub returns-in-Some-clause-goes_on : goal.returns-in-Some-clause-goes_on
returns-in-Some-clause-goes_on g c = looked g.E.HasClient.client c.args.pass.seat.me c.durable.new.pass.seat.me c.take_log-turn.result.seat.me c.durable.result c.give_log-in-Some.result.seat.me.0 c.durable.ensures.told c.take_log-turn.ensures.learned (ap (λ x. x.0) c.give_log-in-Some.ensures.told)

pub returns-in-Some-clause-committed : goal.returns-in-Some-clause-committed
returns-in-Some-clause-committed g c =
    let turn = c.take_log-turn.ensures in
    let past : c.durable-2.result < c.args.n = search rules in
    has_failed (standing g.D.Disk g.E.HasRecords.logs g.E.HasRecords.start) (λ y. y.side.halted) c.take_log-turn.result.value c.take_log-turn.result.seat.me.0 c.give_log-in-Some.result.seat.me.0 c.args.n c.in-Some.fault turn.stands
    (exact_log g.E.HasClient.client c.durable.new.pass.seat.me c.take_log-turn.result.seat.me turn.learned) (ap (λ x. x.0) c.give_log-in-Some.ensures.told) (sym c.halted.ensures ∙ c.in-Some.is) (omega (arith, past, c.durable-2.ensures, turn.stands.count))

pub returns-in-None-clause-committed : goal.returns-in-None-clause-committed
returns-in-None-clause-committed g c =
    let same = ap (λ v. v.list) c.take_log-turn.ensures.learned.0 ∙ ap (λ x. x.0.list) c.durable.ensures.told.0 in
    let past : c.durable-2.result < c.args.n = search rules in
    led_commits (standing g.D.Disk g.E.HasRecords.logs g.E.HasRecords.start) (λ y. y.side.halted) c.args.n c.args.pass.seat.me.0 c.lead.result.1.seat.me.0 c.lead.result.0
    (c.lead.ensures.leads c.args.n (omega (arith, c.requires.known, ap (λ l. length l) same)) (omega (arith, past, c.durable-2.ensures)))
