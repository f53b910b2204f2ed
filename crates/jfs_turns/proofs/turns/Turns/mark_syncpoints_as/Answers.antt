use Rattle.std.proofs.Common.{ap, sym, ◌∙◌}
use Rattle.jfs_turns.proofs.turns.Turns.mark_syncpoints_as.Goals as goal

pub invariant_of-volume : goal.invariant_of-volume
invariant_of-volume g c = let b = c.requires.both.0 in let h = c.point_seats.ensures.told.5 in
    record { may = ((ap (λ x. x.0.live) h ∙ b.5.0, ap (λ x. x.0.keeper) h, ap (λ x. x.0.appends) h), ap (λ x. x.0.number) h ∙ (sym b.8 ∙ c.args.turn.now.volume.may.1)) }
