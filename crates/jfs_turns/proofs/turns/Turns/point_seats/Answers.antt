use Rattle.std.proofs.Common.{rules, ap, sym, subst, ◌≤◌, length, ◌∙◌}
use Rattle.jfs_turns.specs.Lists.{IsPrefix}
use Rattle.jfs_turns.proofs.Marks.{marks_points, marks_stable}
use Rattle.jfs_turns.proofs.turns.Turns.point_seats.Goals as goal

pub fetch_max-requires : goal.fetch_max-requires
fetch_max-requires g c = let b = c.requires.both in let m = c.rejoin.ensures.1 in let s = c.requires.said in (
  c.rejoin.ensures.0 ∙ c.requires.table.0,
  search rules,
  marks_points _ _ _ _ _ _ _ _ (ap (λ x. x.0.live) m ∙ b.5.0) (ap (λ x. x.0.keeper) m ∙ b.5.2) (ap (λ x. x.0.volume) m ∙ b.6) (ap (λ x. x.0.log) m ∙ b.5.3)
      (s.0, s.1, subst (λ l. IsPrefix l s.0) (sym (ap (λ x. x.0.points) m)) s.2, s.3),
)

pub fetch_max-requires-2 : goal.fetch_max-requires-2
fetch_max-requires-2 g c = let b = c.requires.both in let m = c.rejoin.ensures.1 in let t = c.fetch_max.ensures.2.1 in (
  c.fetch_max.ensures.0 ∙ (c.rejoin.ensures.0 ∙ c.requires.table.0),
  search rules,
  marks_stable _ _ _ _ _ _ _ (ap (λ v. v.live) t.4 ∙ (ap (λ x. x.0.live) m ∙ b.5.0)) (ap (λ v. v.keeper) t.4 ∙ (ap (λ x. x.0.keeper) m ∙ b.5.2)) (ap (λ v. v.log) t.4 ∙ (ap (λ x. x.0.log) m ∙ b.5.3))
      (subst (λ l. c.args.stable ≤ length l) (sym (ap (λ v. v.log_points) t.4)) (subst (λ k. c.args.stable ≤ k) (sym t.3) c.requires.bound)),
)
