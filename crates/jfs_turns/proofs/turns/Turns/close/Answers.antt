use Rattle.std.proofs.Common.{rules, arith, ◌≡◌, ◌+◌, length, length-append, [], ◌∷◌, ap, sym, subst, ◌∙◌}
use mathlib.Core.Option.{some-injective}
use lib.ListN.{get_elem?}
use Rattle.jfs_turns.specs.Passes.{ArePasses, AtEnd}
use Rattle.jfs_turns.proofs.Seats.{takes_back}
use Rattle.jfs_turns.proofs.Closing.{AreBack, last_pass, front_passes, none_back, one_back, ends, same_volume, same_log}
use Rattle.jfs_turns.proofs.turns.Turns.close.Goals as goal

pub join_seat-requires : goal.join_seat-requires
join_seat-requires g c = let i = c.loop-pass.invariant in let k = i.2 in let p = c.in-Some-pop.pass in let w = p.free.0 in let items = c.in-Some-pop.ensures.items in let last = last_pass _ _ _ _ _ i.6 items in
    let long : length c.loop-pass.passes.items ≡ length c.pop-in-loop-pass.new.self.items + 1 = ap length items ∙ length-append c.pop-in-loop-pass.new.self.items (p ∷ []) in
    (i.1, last.0, p.free.1, search rules, takes_back _ _ _ _ _ _ _ k.0 k.2 k.1 i.4 w.0 w.1 w.4 w.5 (omega (arith, p.free.2, last.1, long, i.5)))

pub loop-pass-preserved : goal.loop-pass-preserved
loop-pass-preserved g c = let i = c.loop-pass.invariant in let k = i.2 in let p = c.in-Some-pop.pass in let items = c.in-Some-pop.ensures.items in let e = c.join_seat.ensures in let m = e.2 in
    let long : length c.loop-pass.passes.items ≡ length c.pop-in-loop-pass.new.self.items + 1 = ap length items ∙ length-append c.pop-in-loop-pass.new.self.items (p ∷ []) in (
      search rules,
      e.0 ∙ i.1,
      (ap (λ x. x.0.live) m ∙ k.0, ap (λ x. x.0.main) m ∙ k.1, ap (λ x. x.0.keeper) m ∙ k.2, ap (λ x. x.0.appends) m ∙ k.3, ap (λ x. x.0.volume) m ∙ k.4, ap (λ x. x.0.log) m ∙ k.5),
      ap (λ x. x.1) m ∙ i.3,
      ap (λ x. x.0.number) m ∙ (i.4 ∙ sym (ap (λ x. x.0.dealt) m)),
      omega (arith, long, i.5, ap (λ x. x.0.back) m, ap (λ x. x.0.dealt) m),
      subst (λ t. ArePasses c.args.self.table.shared.table_id t c.pop-in-loop-pass.new.self.items) (sym (ap (λ x. x.0.dealt) m)) (front_passes _ _ _ _ _ i.6 items),
      ap (λ x. x.0.dealt) m ∙ i.7,
      one_back _ _ _ _ _ _ i.8 items (ap (λ x. x.0) m),
    )

pub loop-pass-init : goal.loop-pass-init
loop-pass-init g c = let p = c.in-Some.last in let items = c.in-Some.ensures.items in let l = last_pass _ _ _ _ _ c.requires.passes.0 items in
    let long : length c.args.passes.items ≡ length c.pop.new.self.items + 1 = ap length items ∙ length-append c.pop.new.self.items (p ∷ []) in (
      search rules,
      l.0,
      p.free.0,
      p.free.1,
      omega (arith, p.free.2, l.1, l.2, long),
      omega (arith, long, l.2, l.3),
      subst (λ t. ArePasses c.args.self.table.shared.table_id t c.pop.new.self.items) (sym l.2) (front_passes _ _ _ _ _ c.requires.passes.0 items),
      l.2,
      none_back _ _ _ items l.4,
    )

pub unreachable-requires-in_default-take : goal.unreachable-requires-in_default-take
unreachable-requires-in_default-take g c = let i = c.loop-pass.invariant in let none : c.loop-pass.passes.items ≡ [] = search rules in let empty : length c.loop-pass.passes.items ≡ 0 = ap length none in
    let f = ends _ _ _ _ _ _ _ _ _ c.close_with-closed.ensures.values.2 i.2 i.4 (omega (arith, empty, i.5)) i.7 c.requires.passes.0 (subst (λ l. AreBack c.args.passes.items l c.loop-pass.keeper.me.0) none i.8) in c.in_default-take.not-Volume f.0 (some-injective _ _ (sym c.take.ensures.value ∙ f.2))

pub unreachable-requires-in_default-take-2 : goal.unreachable-requires-in_default-take-2
unreachable-requires-in_default-take-2 g c = let i = c.loop-pass.invariant in let none : c.loop-pass.passes.items ≡ [] = search rules in let empty : length c.loop-pass.passes.items ≡ 0 = ap length none in
    let f = ends _ _ _ _ _ _ _ _ _ c.close_with-closed.ensures.values.2 i.2 i.4 (omega (arith, empty, i.5)) i.7 c.requires.passes.0 (subst (λ l. AreBack c.args.passes.items l c.loop-pass.keeper.me.0) none i.8) in
    c.in_default-take-2.not-Log f.1 (some-injective _ _ (sym c.take-2.ensures.value ∙ (ap (λ l. get_elem? l 1) c.take.ensures.others.0 ∙ f.3)))

pub returns : goal.returns
returns g c = let i = c.loop-pass.invariant in let none : c.loop-pass.passes.items ≡ [] = search rules in let empty : length c.loop-pass.passes.items ≡ 0 = ap length none in
    let f = ends _ _ _ _ _ _ _ _ _ c.close_with-closed.ensures.values.2 i.2 i.4 (omega (arith, empty, i.5)) i.7 c.requires.passes.0 (subst (λ l. AreBack c.args.passes.items l c.loop-pass.keeper.me.0) none i.8) in
    let x : c.in-Volume.volume ≡ f.0 = same_volume _ _ (sym c.in-Volume.is ∙ some-injective _ _ (sym c.take.ensures.value ∙ f.2)) in
    let y : c.in-Log.log ≡ f.1 = same_log _ _ (sym c.in-Log.is ∙ some-injective _ _ (sym c.take-2.ensures.value ∙ (ap (λ l. get_elem? l 1) c.take.ensures.others.0 ∙ f.3))) in
    subst {A = g.row.V.Denot × g.row.L.Denot} (λ z. AtEnd g.E.HasClient.client g.V.Stands.stands g.L.Stands.stands c.args.passes.items z.0 z.1) (λ k. (sym x k, sym y k)) f.4
