-- The steps that mark what was taken and the syncpoints keep the rule.
use Rattle.std.proofs.Common.{◌≡◌, ◌≢◌, ℕ, ◌≤◌, List, [], ◌∷◌, ◌++◌, length, sym, refl, ap, ◌∙◌, subst, arith, true, false, inl, append_assoc, le_trans, max}
use Rattle.std.proofs.Math.Nat.{le-max_left, le-max_right, max-le}
use Rattle.atomic_table.specs.Table.{keeps, Allows}
use Rattle.jfs_turns.specs.Lists.{IsPrefix}
use Rattle.jfs_turns.specs.Views.{Seated}
use Rattle.jfs_turns.specs.Standing.{Standing}
use Rattle.jfs_turns.specs.Rule.{IsKept, Now, Fits, IsOrdered}
use Rattle.jfs_turns.specs.Told.{marked_taken, marked_points, marked_stable}
use Rattle.jfs_turns.proofs.Steps.{prefix_refl, prefix_length, allows, steady}
use Rattle.jfs_turns.specs.declared.view.View.{View}

greater : (a b : ℕ) → a ≤ b → max a b ≡ b
greater a b h = let l = le-max_right a b in let r : max a b ≤ b = max-le h (omega arith) in omega arith

prefix_trans : {A : Type 0} (xs ys zs : List A) → IsPrefix xs ys → IsPrefix ys zs → IsPrefix xs zs
prefix_trans {A} xs ys zs f g = (f.0 ++ g.0, sym (append_assoc xs f.0 g.0) ∙ ap (λ (l : List A). l ++ g.0) f.1 ∙ g.1)

module _ {V L E : Type 0} (client : E → ℕ) (of_volume : Standing V E) (of_log : Standing L E) where
  -- all entries are taken
  pub marks_taken : (slots id : ℕ) (m : Seated V L E) → m.0.live ≡ true → m.0.keeper ≡ false → m.0.volume ≡ true → m.0.appends ≡ true → m.0.log ≡ true → Allows (IsKept client of_volume of_log) slots id m 0 (λ k. k) (λ _ m'. marked_taken m m')
  marks_taken slots id m alive plain volume appends log = let v = m.0 in allows client of_volume of_log slots id m 0 (λ k. k) (λ _ m'. marked_taken m m') (inl plain) (λ n homes views p at small. let f = p.each id v at alive in let know = f.knows in let lo = f.volume volume in let li = f.appends appends in let hi = f.logs log in let o = p.ordered in
      let n' : Now E = record n { taken = length v.list; log_list = v.list } in
      let w : View E = record v { taken = length v.list; log_list = v.list } in
      let all : length v.list ≡ length n.list = ap (λ (l : List E). length l) li.4 in
      let others : (j : ℕ) (u : View E) → j ≢ id → Fits client n j u → Fits client n' j u = λ j u ne g. record {
        knows = g.knows;
        volume = λ yes. absurd (ne ((g.volume yes).0 ∙ sym lo.0));
        appends = λ yes. absurd (ne ((g.appends yes).0 ∙ sym li.0));
        logs = λ yes. absurd (ne ((g.logs yes).0 ∙ sym hi.0));
        passes = g.passes;
        deals = g.deals;
      } in
      let fit : Fits client n' id w = record {
        knows = know;
        volume = λ yes. (lo.0, lo.1, lo.2, lo.3, refl);
        appends = λ yes. (li.0, li.1, li.2, li.3, li.4, refl);
        logs = λ yes. (hi.0, hi.1, hi.2, refl, hi.4, hi.5, refl, hi.7);
        passes = f.passes;
        deals = f.deals;
      } in
      let ordered : IsOrdered client n' = record {
        log_listed = know.listed;
        log_pointed = o.log_pointed;
        durable_listed = (let a = o.durable_taken in let b = o.taken_listed in omega arith);
        durable_taken = (let a = o.durable_taken in let b = o.taken_listed in omega arith);
        taken_listed = omega arith;
        stable_pointed = o.stable_pointed;
        known = o.known;
        within = o.within;
      } in (
        w,
        keeps,
        tt,
        (
          n',
          refl,
          steady client of_volume of_log n n' homes views id v w p at refl refl refl refl refl refl refl refl refl others fit ordered
              (λ e. absurd (omega (arith, lo.1, lo.2))) (λ e. absurd (omega (arith, hi.1, hi.2))),
        ),
        refl,
      ))

  -- the list of syncpoints grows
  pub marks_points : (slots id : ℕ) (m : Seated V L E) (fits : List ℕ → Type 0) (k : ℕ) → m.0.live ≡ true → m.0.keeper ≡ false → m.0.volume ≡ true → m.0.log ≡ true → ((ps : List ℕ) × fits ps × IsPrefix m.0.points ps × (length ps ≡ k))
      → Allows (IsKept client of_volume of_log) slots id m 4 (λ x. max x k) (λ _ m'. marked_points fits k m m')
  marks_points slots id m fits k alive plain volume log said = let v = m.0 in let ps = said.0 in allows client of_volume of_log slots id m 4 (λ x. max x k) (λ _ m'. marked_points fits k m m') (inl plain) (λ n homes views p at small. let f = p.each id v at alive in let know = f.knows in let lo = f.volume volume in let hi = f.logs log in let o = p.ordered in
      let n' : Now E = record n { points = ps; log_points = ps } in
      let w : View E = record v { points = ps; log_points = ps } in
      let on : IsPrefix n.points ps = subst (λ (l : List ℕ). IsPrefix l ps) lo.3 said.2 in
      let longer = prefix_length n.points ps on in
      let others : (j : ℕ) (u : View E) → j ≢ id → Fits client n j u → Fits client n' j u = λ j u ne g. record {
        knows = record { based = g.knows.based; listed = g.knows.listed; pointed = prefix_trans u.points n.points ps g.knows.pointed on; durable = g.knows.durable; stable = g.knows.stable };
        volume = λ yes. absurd (ne ((g.volume yes).0 ∙ sym lo.0));
        appends = g.appends;
        logs = λ yes. absurd (ne ((g.logs yes).0 ∙ sym hi.0));
        passes = g.passes;
        deals = g.deals;
      } in
      let fit : Fits client n' id w = record {
        knows = record { based = know.based; listed = know.listed; pointed = prefix_refl ps; durable = know.durable; stable = know.stable };
        volume = λ yes. (lo.0, lo.1, lo.2, refl, lo.4);
        appends = f.appends;
        logs = λ yes. (hi.0, hi.1, hi.2, hi.3, hi.4, hi.5, hi.6, refl);
        passes = f.passes;
        deals = f.deals;
      } in
      let ordered : IsOrdered client n' = record {
        log_listed = o.log_listed;
        log_pointed = refl;
        durable_listed = o.durable_listed;
        durable_taken = o.durable_taken;
        taken_listed = o.taken_listed;
        stable_pointed = (let a = o.stable_pointed in let b = ap (λ (x : List ℕ). length x) o.log_pointed in omega arith);
        known = o.known;
        within = o.within;
      } in (
        w,
        keeps,
        tt,
        (
          n',
          ap (λ (x : ℕ). n.volume_turn ∷ n.log_turn ∷ length n.list ∷ n.durable ∷ x ∷ n.stable ∷ []) (greater (length n.points) k (omega (arith, said.3)) ∙ sym said.3),
          steady client of_volume of_log n n' homes views id v w p at refl refl refl refl refl refl refl refl refl others fit ordered (λ e. absurd (omega (arith, lo.1, lo.2))) (λ e. absurd (omega (arith, hi.1, hi.2))),
        ),
        (refl, (ps, said.1, said.2, said.3, refl)),
      ))

  -- the number of stable syncpoints grows
  pub marks_stable : (slots id : ℕ) (m : Seated V L E) (k : ℕ) → m.0.live ≡ true → m.0.keeper ≡ false → m.0.log ≡ true → k ≤ length m.0.log_points → Allows (IsKept client of_volume of_log) slots id m 5 (λ x. max x k) (λ _ m'. marked_stable k m m')
  marks_stable slots id m k alive plain log within = let v = m.0 in allows client of_volume of_log slots id m 5 (λ x. max x k) (λ _ m'. marked_stable k m m') (inl plain) (λ n homes views p at small. let f = p.each id v at alive in let know = f.knows in let mine = f.logs log in let o = p.ordered in
      let n' : Now E = record n { stable = max n.stable k } in
      let w : View E = record v { stable = max v.stable k; log_stable = max v.log_stable k } in
      let more : n.stable ≤ max n.stable k = le-max_left n.stable k in
      let others : (j : ℕ) (u : View E) → j ≢ id → Fits client n j u → Fits client n' j u = λ j u ne g. record {
        knows = record { based = g.knows.based; listed = g.knows.listed; pointed = g.knows.pointed; durable = g.knows.durable; stable = le_trans g.knows.stable more };
        volume = g.volume;
        appends = g.appends;
        logs = λ yes. absurd (ne ((g.logs yes).0 ∙ sym mine.0));
        passes = g.passes;
        deals = g.deals;
      } in
      let same : max v.log_stable k ≡ max n.stable k = ap (λ (x : ℕ). max x k) mine.5 in
      let fit : Fits client n' id w = record {
        knows = record { based = know.based; listed = know.listed; pointed = know.pointed; durable = know.durable; stable = max-le (le_trans know.stable more) (le-max_right n.stable k) };
        volume = f.volume;
        appends = f.appends;
        logs = λ yes. (mine.0, mine.1, mine.2, mine.3, mine.4, same, mine.6, mine.7);
        passes = f.passes;
        deals = f.deals;
      } in
      let ordered : IsOrdered client n' = record {
        log_listed = o.log_listed;
        log_pointed = o.log_pointed;
        durable_listed = o.durable_listed;
        durable_taken = o.durable_taken;
        taken_listed = o.taken_listed;
        stable_pointed = max-le o.stable_pointed (omega (arith, ap (λ (l : List ℕ). length l) mine.7));
        known = o.known;
        within = o.within;
      } in (
        w,
        keeps,
        tt,
        (
          n',
          refl,
          steady client of_volume of_log n n' homes views id v w p at refl refl refl refl refl refl refl refl refl others fit ordered
              (λ e. let h = p.volume_home e in (h.0, h.1, h.2, h.3, h.4, h.5, le_trans h.6 more)) (λ e. absurd (omega (arith, mine.1, mine.2))),
        ),
        refl,
      ))
