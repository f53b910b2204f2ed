use Rattle.std.proofs.Common.{ap, sym, subst, arith, length}
use Rattle.jfs_turns.specs.Both.{whole}
use Rattle.jfs_turns.specs.Lists.{IsPrefix}
use Rattle.jfs_turns.specs.Standing.{VolumeStands}
use Rattle.jfs_groups.proofs.Leading.{halted_stands, halts, behind_all}
use Rattle.jfs_groups.proofs.Led.{prefix_long}
use Rattle.jfs_groups.proofs.Points.{marked_all}
use Rattle.jfs_groups.proofs.lead.halt_volume.Goals as goal

pub halt-requires : goal.halt-requires
halt-requires g c = let v = whole c.add_volume-both.result in let s = c.add_volume-both.ensures.stands in record { stands = (v.base, v.list, v.taken, s.0, v.points, s.1, s.2) }

pub mark_syncpoints_as-requires-clause-said : goal.mark_syncpoints_as-requires-clause-said
mark_syncpoints_as-requires-clause-said g c =
    let v = whole c.add_volume-both.result in
    let e = c.add_volume-both.ensures in
    let s = e.stands in
    let h = c.halt.ensures.halts v.base v.list v.taken s.0 v.points s.1 s.2 in
    (h.0, ((s.0, s.1, h.2, s.3, s.4), marked_all v.points h.0 h.1), subst (λ ps. IsPrefix ps h.0) (sym (ap (λ x. x.points) e.halves.0)) (behind_all v.points h.0 h.1), sym h.3)

pub mark_syncpoints_as-requires-clause-bound : goal.mark_syncpoints_as-requires-clause-bound
mark_syncpoints_as-requires-clause-bound g c =
    let v = whole c.add_volume-both.result in
    let e = c.add_volume-both.ensures in
    let s = e.stands in
    let h = c.halt.ensures.halts v.base v.list v.taken s.0 v.points s.1 s.2 in
    let b = e.learned.6 c.args.turn.has.0.3 in
    let more = behind_all v.points h.0 h.1 in
    omega (arith, h.3, c.requires.counts.0, c.requires.counts.1, ap (λ y. y.points) e.same.0, ap (λ l. length l) b.4, prefix_long v.points h.0 more)

pub drop_volume-requires-clause-stands : goal.drop_volume-requires-clause-stands
drop_volume-requires-clause-stands g c =
    let m = c.mark_syncpoints_as.ensures in
    let v = whole c.add_volume-both.result in
    subst (λ x. VolumeStands g.V.Stands.stands x (whole c.mark_syncpoints_as.new.turn)) (sym m.same.0)
    (halted_stands g.V.Stands.stands c.halt.new.self v m.told.0 c.add_volume-both.result.log.value.points c.mark_syncpoints_as.new.turn m.told.4 m.told.1.0)

pub returns-clause-goes_on : goal.returns-clause-goes_on
returns-clause-goes_on g c =
    let e = c.add_volume-both.ensures in
    let m = c.mark_syncpoints_as.ensures in
    let v = whole c.add_volume-both.result in
    (halts g.E.HasClient.client c.args.turn.seat.me (v, c.add_volume-both.result.log.seat.me.1) c.drop_volume.result.seat.me.0 m.told.0 c.add_volume-both.result.log.value.points c.mark_syncpoints_as.new.turn c.args.turn.has.0.3 e.learned
    m.told.1.1 (omega (arith, c.requires.counts.0, ap (λ y. y.points) e.same.0)) m.told.4 c.drop_volume.ensures.told).0

pub returns-clause-exact : goal.returns-clause-exact
returns-clause-exact g c =
    let e = c.add_volume-both.ensures in
    let m = c.mark_syncpoints_as.ensures in
    let v = whole c.add_volume-both.result in
    (halts g.E.HasClient.client c.args.turn.seat.me (v, c.add_volume-both.result.log.seat.me.1) c.drop_volume.result.seat.me.0 m.told.0 c.add_volume-both.result.log.value.points c.mark_syncpoints_as.new.turn c.args.turn.has.0.3 e.learned
    m.told.1.1 (omega (arith, c.requires.counts.0, ap (λ y. y.points) e.same.0)) m.told.4 c.drop_volume.ensures.told).1

pub returns-clause-keeps : goal.returns-clause-keeps
returns-clause-keeps g c =
    let e = c.add_volume-both.ensures in
    let m = c.mark_syncpoints_as.ensures in
    let v = whole c.add_volume-both.result in
    (halts g.E.HasClient.client c.args.turn.seat.me (v, c.add_volume-both.result.log.seat.me.1) c.drop_volume.result.seat.me.0 m.told.0 c.add_volume-both.result.log.value.points c.mark_syncpoints_as.new.turn c.args.turn.has.0.3 e.learned
    m.told.1.1 (omega (arith, c.requires.counts.0, ap (λ y. y.points) e.same.0)) m.told.4 c.drop_volume.ensures.told).2
