use Rattle.std.proofs.Common.{rules, ap, sym, subst}
use Rattle.jfs_turns.specs.Standing.{VolumeStands}
use Rattle.jfs_turns.proofs.Seats.{joins_aside}
use Rattle.jfs_turns.proofs.turns.Turns.drop_volume.Goals as goal

pub join_seat-requires : goal.join_seat-requires
join_seat-requires g c = let b = c.requires.both.0 in let t = c.requires.table in (t.1, t.0, b.4, search rules, joins_aside _ _ _ _ _ _ _ b.5.0 b.5.2 b.6 b.5.3 b.0.0 b.0.2 b.2 b.3)

pub put_volume-requires-clause-stands : goal.put_volume-requires-clause-stands
put_volume-requires-clause-stands g c = subst (λ v. VolumeStands g.V.Stands.stands c.args.turn.volume.value v) (sym (ap (λ x. x.0) c.join_seat.ensures.2)) c.requires.stands
