use Rattle.std.proofs.Common.{rules, ap, ◌∙◌}
use Rattle.jfs_turns.proofs.Seats.{cuts_spent, joins_aside}
use Rattle.jfs_turns.proofs.turns.Turns.rejoin.Goals as goal

pub split_seat-spent-requires : goal.split_seat-spent-requires
split_seat-spent-requires g c = let b = c.requires.both in (c.requires.table.0, search rules, cuts_spent _ _ _ _ _ b.5.2)

pub join_seat-requires : goal.join_seat-requires
join_seat-requires g c = let b = c.requires.both in let r = c.requires.table in let m = c.split_seat-spent.ensures.2 in let h = c.replace-seat.ensures.value in (
  c.split_seat-spent.ensures.0 ∙ r.0,
  ap (λ s. s.table_id) h ∙ r.1,
  ap (λ s. s.me.1) h ∙ b.4,
  search rules,
  joins_aside _ _ _ _ _ _ _ (ap (λ x. x.0.live) m ∙ b.5.0) (ap (λ x. x.0.keeper) m ∙ b.5.2) (ap (λ x. x.0.volume) m ∙ b.6) (ap (λ x. x.0.log) m ∙ b.5.3) (ap (λ s. s.me.0.live) h ∙ b.0.0) (ap (λ s. s.me.0.appends) h ∙ b.0.2) (ap (λ s. s.me.0.volume) h ∙ b.2) (ap (λ s. s.me.0.log) h ∙ b.3),
)
