use Rattle.std.proofs.Common.{rules, ap, ◌∙◌}
use Rattle.jfs_turns.proofs.Marks.{marks_taken}
use Rattle.jfs_turns.proofs.turns.Turns.mark_seats.Goals as goal

pub load-requires : goal.load-requires
load-requires g c = let b = c.requires.both in let m = c.rejoin.ensures.1 in
    (c.rejoin.ensures.0 ∙ c.requires.table.0, search rules, marks_taken _ _ _ _ _ _ (ap (λ x. x.0.live) m ∙ b.5.0) (ap (λ x. x.0.keeper) m ∙ b.5.2) (ap (λ x. x.0.volume) m ∙ b.6) (ap (λ x. x.0.appends) m) (ap (λ x. x.0.log) m ∙ b.5.3))
