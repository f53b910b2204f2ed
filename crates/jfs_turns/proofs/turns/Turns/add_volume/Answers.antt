use Rattle.std.proofs.Common.{rules, ap, sym, subst, ◌∙◌}
use Rattle.jfs_turns.specs.Standing.{VolumeStands}
use Rattle.jfs_turns.proofs.Seats.{cuts_aside, stands_joined}
use Rattle.jfs_turns.proofs.turns.Turns.add_volume.Goals as goal

pub split_seat-half-requires : goal.split_seat-half-requires
split_seat-half-requires g c = let e = c.in-Some-try_volume.ensures in let l = e.some.2.0 in let i = c.loop.invariant in let h = c.args.turn.has.0 in
    (e.table.0 ∙ (i.0 ∙ c.requires.table), search rules, cuts_aside _ _ _ _ _ (ap (λ v. v.live) l ∙ (ap (λ x. x.0.live) i.1 ∙ h.0)) (ap (λ v. v.keeper) l ∙ (ap (λ x. x.0.keeper) i.1 ∙ h.2)) (ap (λ v. v.appends) l))

pub returns-in-Some-try_volume-clause-stands : goal.returns-in-Some-try_volume-clause-stands
returns-in-Some-try_volume-clause-stands g c = let e = c.split_seat-half.ensures in let half = subst (λ v. VolumeStands g.V.Stands.stands c.in-Some-try_volume.value v) (sym (ap (λ x. x.0) e.4)) c.in-Some-try_volume.ensures.some.1 in
    stands_joined {V = g.row.V.Denot} {E = g.row.E.Denot} g.V.Stands.stands c.in-Some-try_volume.value c.split_seat-half.new.seat.me.0 c.split_seat-half.result.me.0 (ap (λ x. x.0.base) e.2 ∙ sym (ap (λ x. x.0.base) e.4)) (ap (λ x. x.0.taken) e.2 ∙ sym (ap (λ x. x.0.taken) e.4))
    (ap (λ x. x.0.points) e.2 ∙ sym (ap (λ x. x.0.points) e.4)) half
