use Rattle.std.proofs.Common.{rules, arith, refl, ℕ, ◌+◌, ap, sym, subst, length, length-append, ◌≡◌, ◌∙◌}
use Rattle.jfs_turns.specs.Views.{fresh_pass, dealt_one, kept}
use Rattle.jfs_turns.specs.Passes.{ArePasses, AreNew}
use Rattle.jfs_turns.proofs.Seats.{deals_pass, becomes}
use Rattle.jfs_turns.proofs.Closing.{more_passes}
use Rattle.jfs_turns.proofs.turns.Turns.new.Goals as goal

pub split_seat-seat-requires : goal.split_seat-seat-requires
split_seat-seat-requires g c = let i = c.loop-i.invariant in let m = i.2 in
    (search rules, search rules, deals_pass _ _ _ _ _ (ap (λ x. x.0.live) m, ap (λ x. x.0.keeper) m, ap (λ x. x.0.main) m, ap (λ x. x.0.appends) m, ap (λ x. x.0.volume) m, ap (λ x. x.0.log) m) (omega (arith, ap (λ x. x.0.dealt) m, ap (λ x. x.0.back) m, c.loop-i-test.true)))

pub loop-i-preserved : goal.loop-i-preserved
loop-i-preserved g c = let i = c.loop-i.invariant in let e = c.split_seat-seat.ensures in let base = g.B.Based.base in
    let more = more_passes _ c.args.passes base c.loop-i.dealt.items _ i.5 i.6 (e.3 ∙ i.1) (ap (λ (k : ℕ). k + 1) (sym i.3)) refl (ap (λ x. x.0) e.4 ∙ (ap (λ x. fresh_pass x.0) i.2 ∙ ap (λ (k : ℕ). fresh_pass (kept base c.args.passes k)) (sym i.3))) in (
      search rules,
      search rules,
      e.2 ∙ ap (λ x. (dealt_one x.0, x.1)) i.2,
      search rules,
      search rules,
      subst (ArePasses _ c.args.passes) (sym c.push_reserved.ensures.items) more.0,
      subst (AreNew base) (sym c.push_reserved.ensures.items) more.1,
    )

pub load-requires : goal.load-requires
load-requires g c = let i = c.loop-i.invariant in let m = i.2 in (
  search rules,
  search rules,
  becomes _ _ _ _ _ _ (ap (λ x. x.0.live) m, ap (λ x. x.0.keeper) m, ap (λ x. x.0.main) m, ap (λ x. x.0.appends) m, ap (λ x. x.0.volume) m, ap (λ x. x.0.log) m)
      (omega (arith, ap (λ x. x.0.dealt) m, ap (λ x. x.0.back) m, c.loop-i-test.false, c.loop-i.auto.i-end, c.requires.few.0)),
)

pub returns-clause-ok : goal.returns-clause-ok
returns-clause-ok g c = let i = c.loop-i.invariant in let e = c.load.ensures in let base = g.B.Based.base in let all : c.args.passes ≡ length c.loop-i.dealt.items + 1 = omega (arith, i.3, c.loop-i-test.false, c.loop-i.auto.i-end, c.requires.few.0) in
    let more = more_passes _ c.args.passes base c.loop-i.dealt.items _ i.5 i.6 (e.0 ∙ i.1) all refl (ap (λ x. x.0) e.2 ∙ (ap (λ x. fresh_pass x.0) i.2 ∙ ap (λ (k : ℕ). fresh_pass (kept base c.args.passes k)) (sym i.3))) in
    (subst (ArePasses _ c.args.passes) (sym c.push_reserved-2.ensures.items) more.0, subst (AreNew base) (sym c.push_reserved-2.ensures.items) more.1, ap length c.push_reserved-2.ensures.items ∙ (length-append c.loop-i.dealt.items _ ∙ sym all))
