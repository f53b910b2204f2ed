use Rattle.std.proofs.Common.{arith, ap, sym, ◌∙◌, subst}
use Rattle.jfs_turns.specs.Both.{whole}
use Rattle.jfs_turns.specs.Standing.{VolumeStands}
use Rattle.jfs_groups.proofs.Leading.{taken_stands, collects}
use Rattle.jfs_groups.proofs.lead.collect.Goals as goal

pub drop_volume-requires-clause-stands : goal.drop_volume-requires-clause-stands
drop_volume-requires-clause-stands g c =
    let e = c.add_volume-both.ensures in
    let v = whole c.add_volume-both.result in
    let s = e.stands in
    let b = e.learned.6 c.args.turn.has.0.3 in
    let count = c.durable-durable.ensures ∙ (ap (λ y. y.side.durable) e.same.0 ∙ c.requires.stands.count) in
    let told = c.told.ensures.tells v.base v.list v.taken s.0 v.points s.1 s.2 in
    let group = c.take_group-group.ensures.takes v.base v.list v.taken c.durable-durable.result v.points s.1 told in
    subst (λ x. VolumeStands g.V.Stands.stands x (whole c.mark_taken.new.turn)) (sym c.mark_taken.ensures.same.0)
    (taken_stands g.V.Stands.stands c.take_group-group.new.self v c.mark_taken.new.turn c.mark_taken.ensures.told c.durable-durable.result s.1 group.0 (omega (arith, b.1, count)) s.4)

pub returns-clause-goes_on : goal.returns-clause-goes_on
returns-clause-goes_on g c =
    let e = c.add_volume-both.ensures in
    let v = whole c.add_volume-both.result in
    let s = e.stands in
    let told = c.told.ensures.tells v.base v.list v.taken s.0 v.points s.1 s.2 in
    let group = c.take_group-group.ensures.takes v.base v.list v.taken c.durable-durable.result v.points s.1 told in
    (collects g.E.HasClient.client g.E.HasRecords.logs g.E.HasRecords.start c.args.turn.seat.me (v, c.add_volume-both.result.log.seat.me.1) c.drop_volume.result.seat.me.0 c.mark_taken.new.turn c.take_group-group.result c.args.turn.has.0.3 e.learned c.mark_taken.ensures.told c.drop_volume.ensures.told group.1).0

pub returns-clause-exact : goal.returns-clause-exact
returns-clause-exact g c =
    let e = c.add_volume-both.ensures in
    let v = whole c.add_volume-both.result in
    let s = e.stands in
    let told = c.told.ensures.tells v.base v.list v.taken s.0 v.points s.1 s.2 in
    let group = c.take_group-group.ensures.takes v.base v.list v.taken c.durable-durable.result v.points s.1 told in
    (collects g.E.HasClient.client g.E.HasRecords.logs g.E.HasRecords.start c.args.turn.seat.me (v, c.add_volume-both.result.log.seat.me.1) c.drop_volume.result.seat.me.0 c.mark_taken.new.turn c.take_group-group.result c.args.turn.has.0.3 e.learned c.mark_taken.ensures.told c.drop_volume.ensures.told group.1).1

pub returns-clause-collects : goal.returns-clause-collects
returns-clause-collects g c =
    let e = c.add_volume-both.ensures in
    let v = whole c.add_volume-both.result in
    let s = e.stands in
    let told = c.told.ensures.tells v.base v.list v.taken s.0 v.points s.1 s.2 in
    let group = c.take_group-group.ensures.takes v.base v.list v.taken c.durable-durable.result v.points s.1 told in
    (collects g.E.HasClient.client g.E.HasRecords.logs g.E.HasRecords.start c.args.turn.seat.me (v, c.add_volume-both.result.log.seat.me.1) c.drop_volume.result.seat.me.0 c.mark_taken.new.turn c.take_group-group.result c.args.turn.has.0.3 e.learned c.mark_taken.ensures.told c.drop_volume.ensures.told group.1).2
