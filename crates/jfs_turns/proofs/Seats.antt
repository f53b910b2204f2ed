-- Seats that are cut and joined keep the rule.
use Rattle.std.proofs.Common.{◌≡◌, ◌≢◌, ℕ, zero, suc, ◌+◌, ◌<◌, ◌≤◌, List, [], ◌∷◌, ◌++◌, length, set, sym, refl, ap, ◌∙◌, subst, arith, Bool, true, false, cond, eqb, eq-eqb, ne_eqb, inl, inr, ⊎_elim, ◌⊎◌, le_trans}
use mathlib.Core.Logic.{dite}
use mathlib.Core.Option.{Option, some, some-injective, some-ne-none}
use native.Mathlib.Decide.{ℕ_discrete}
use lib.ListN.{get_elem?}
use Rattle.atomic_table.specs.Table.{State, keeps, Allows, Splits, Joins}
use Rattle.atomic_table.proofs.Lists.{at_set, set_else, set_again, at_longer}
use Rattle.std.proofs.Math.Nat.{le-max_left, max-le}
use Rattle.jfs_turns.specs.Lists.{HasOwn, AreOwn}
use Rattle.jfs_turns.specs.Views.{Seated, blank, aside, without, rejoined, fresh_pass, dealt_one, took_back, IsKeeper, IsFree}
use Rattle.jfs_turns.specs.Standing.{Standing, VolumeStands}
use Rattle.jfs_turns.specs.Rule.{IsKept, Now, Deals, Knows, Fits, IsEarlier, IsLast, IsOrdered, Holder, has_volume, has_log, VolumeHome, LogHome, Parts}
use Rattle.jfs_turns.proofs.Steps.{born, no_yes, moves, allows, held_on, steady}
use Rattle.jfs_turns.specs.declared.view.View.{View}
use Rattle.jfs_turns.specs.declared.view.Held.{Held}

further : (a b : ℕ) → a ≤ b → a ≢ b → a + 1 ≤ b
further a b h ne = grind arith

-- what the volume stands for by the volume half's seat, it stands for by both halves
pub stands_joined : {V E : Type 0} (of_volume : Standing V E) (x : V) (m w : View E) → m.base ≡ w.base → m.taken ≡ w.taken → m.points ≡ w.points → VolumeStands of_volume x w → VolumeStands of_volume x (rejoined m w)
stands_joined {V} {E} of_volume x m w base taken points h = (
  h.0,
  h.1,
  subst {A = (List (List ℕ)) × ℕ × (List ℕ)} (λ z. of_volume x z.0 w.list z.1 h.0 z.2 h.1) (λ k. (sym base k, sym taken k, sym points k)) h.2,
  le_trans h.3 (le-max_left w.durable m.log_durable),
  le_trans h.4 (le-max_left w.stable m.log_stable),
)

pub at_end : {A : Type 0} (l : List A) (a b : A) (j : ℕ) → get_elem? (l ++ a ∷ []) j ≡ some b → (get_elem? l j ≡ some b) ⊎ ((j ≡ length l) × (a ≡ b))
at_end [] a b zero e = inr (refl, some-injective a b e)
at_end [] a b (suc j) e = absurd (some-ne-none b (sym e))
at_end (x ∷ xs) a b zero e = inl e
at_end (x ∷ xs) a b (suc j) e = ⊎_elim inl (λ t. inr (ap suc t.0, t.1)) (at_end xs a b j e)

module _ {V L E : Type 0} (client : E → ℕ) (of_volume : Standing V E) (of_log : Standing L E) where
  grown : (has : View E → Bool) (views : List (View E)) (v : View E) (at number : ℕ) → Holder has views at number → Holder has (views ++ v ∷ []) at number
  grown has views v at number h = (h.0, at_longer views (v ∷ []) at h.0 h.1, h.2, h.3, h.4, h.5)

  -- a seat more
  one_more : (n : Now E) (homes : List (Option (Held V L))) (views : List (View E)) (v : View E) → Parts client of_volume of_log n homes views → (v.live ≡ true → Fits client n (length views) v) → Parts client of_volume of_log n homes (views ++ v ∷ [])
  one_more n homes views v p fit = record {
    ordered = p.ordered;
    two = p.two;
    each = λ j u e alive. ⊎_elim (λ old. p.each j u old alive) (λ (t : (j ≡ length views) × (v ≡ u)). subst (λ (y : ℕ × View E). y.1.live ≡ true → Fits client n y.0 y.1) (λ k. (sym t.0 k, t.1 k)) fit alive) (at_end views v u j e);
    volume_home = p.volume_home;
    log_home = p.log_home;
    volume_held = λ ne. grown has_volume views v n.volume_seat n.volume_turn (p.volume_held ne);
    log_held = λ ne. grown has_log views v n.log_seat n.log_turn (p.log_held ne);
  }

  -- a spent seat, to lie where another was taken out
  pub cuts_spent : (id : ℕ) (v : View E) → v.keeper ≡ false → Splits (IsKept client of_volume of_log) id v v blank
  cuts_spent id v simple s kept at = let r = born client of_volume of_log s id v kept at (inl simple) in inl (r.0, r.1, one_more r.0 s.homes (set s.views id v) blank (subst (λ (vs : List (View E)). Parts client of_volume of_log r.0 s.homes vs) (sym (set_again s.views id v at)) r.2) (λ yes. absurd (no_yes yes)))

  -- the right to append goes to a seat of its own
  pub cuts_aside : (id : ℕ) (v : View E) → v.live ≡ true → v.keeper ≡ false → v.appends ≡ true → Splits (IsKept client of_volume of_log) id v (without v) (aside v)
  cuts_aside id v alive simple may s kept at = let r = born client of_volume of_log s id v kept at (inl simple) in let n = r.0 in let p = r.2 in let f = p.each id v at alive in let list = f.appends may in let vs : List (View E) = set s.views id (without v) in
      let n' : Now E = record n { append_seat = length vs } in
      let left : Fits client n' id (without v) = record { knows = f.knows; volume = f.volume; appends = λ yes. absurd (no_yes yes); logs = f.logs; passes = f.passes; deals = f.deals } in
      let right : Fits client n' (length vs) (aside v) = record { knows = f.knows; volume = λ yes. absurd (no_yes yes); appends = λ _. (refl, list.1, list.2, list.3, list.4, list.5); logs = λ yes. absurd (no_yes yes); passes = λ yes. absurd (no_yes yes); deals = λ yes. absurd (no_yes yes) } in
      let others : (j : ℕ) (u : View E) → j ≢ id → Fits client n j u → Fits client n' j u = λ j u ne g. record { knows = g.knows; volume = g.volume; appends = λ yes. absurd (ne ((g.appends yes).0 ∙ sym list.0)); logs = g.logs; passes = g.passes; deals = g.deals } in
      inl (n', r.1, one_more n' s.homes vs (aside v) (steady client of_volume of_log n n' s.homes s.views id v (without v) p at refl refl refl refl refl refl refl refl refl others left p.ordered p.volume_home p.log_home) (λ _. right))

  -- a seat takes in another, which is spent
  takes_in : (n n' : Now E) (homes : List (Option (Held V L))) (views : List (View E)) (id other : ℕ) (v w both : View E) → Parts client of_volume of_log n homes views → get_elem? views id ≡ some v → other ≢ id → get_elem? views other ≡ some w
      → both.live ≡ v.live → both.main ≡ v.main → both.number ≡ v.number → both.volume ≡ v.volume → both.log ≡ v.log
      → n'.volume_turn ≡ n.volume_turn → n'.volume_seat ≡ n.volume_seat → n'.log_turn ≡ n.log_turn → n'.log_seat ≡ n.log_seat
      → (w.volume ≡ false) → (w.log ≡ false)
      → ((j : ℕ) (u : View E) → j ≢ id → j ≢ other → Fits client n j u → Fits client n' j u) → Fits client n' id both → IsOrdered client n'
      → (n.volume_turn ≡ 0 → VolumeHome client of_volume of_log n' homes) → (n.log_turn ≡ 0 → LogHome client of_volume of_log n' homes)
      → Parts client of_volume of_log n' homes (set (set views id both) other blank)
  takes_in n n' homes views id other v w both p at apart there live main named volume log lt ls ht hs no_volume no_log others fit ordered volume_home log_home = let vs : List (View E) = set views id both in
      let there' : get_elem? vs other ≡ some w = set_else views id other both apart ∙ there in
      let still : (has : View E → Bool) (k number : ℕ) → has w ≡ false → Holder has vs k number → Holder has (set vs other blank) k number = λ has k number no h. (h.0, set_else vs other k blank (λ e. no_yes (sym no ∙ ap has (some-injective w h.0 (sym there' ∙ ap (λ i. get_elem? vs i) (sym e) ∙ h.1)) ∙ h.4)) ∙ h.1, h.2, h.3, h.4, h.5) in record {
        ordered = ordered;
        two = p.two;
        each = λ j u e alive. ⊎_elim (λ (t : (j ≡ other) × (blank ≡ u)). absurd (no_yes (ap (λ (x : View E). x.live) t.1 ∙ alive)))
            (λ (t : (j ≢ other) × (get_elem? vs j ≡ some u)). ⊎_elim (λ (x : (j ≡ id) × (both ≡ u)). subst (λ (y : ℕ × View E). Fits client n' y.0 y.1) (λ k. (sym x.0 k, x.1 k)) fit)
            (λ (x : (j ≢ id) × (get_elem? views j ≡ some u)). others j u x.0 t.0 (p.each j u x.1 alive)) (at_set views id j both u t.1)) (at_set vs other j blank u e);
        volume_home = λ e. volume_home (sym lt ∙ e);
        log_home = λ e. log_home (sym ht ∙ e);
        volume_held = λ ne. still has_volume n'.volume_seat n'.volume_turn no_volume (subst (λ (z : ℕ × ℕ). Holder has_volume vs z.0 z.1) (λ k. (sym ls k, sym lt k)) (held_on client of_volume of_log has_volume views n.volume_seat n.volume_turn id v both at live main volume named (p.volume_held (λ e. ne (lt ∙ e)))));
        log_held = λ ne. still has_log n'.log_seat n'.log_turn no_log (subst (λ (z : ℕ × ℕ). Holder has_log vs z.0 z.1) (λ k. (sym hs k, sym ht k)) (held_on client of_volume of_log has_log views n.log_seat n.log_turn id v both at live main log named (p.log_held (λ e. ne (ht ∙ e)))));
      }

  -- the right to append comes back to the pass's seat
  pub joins_aside : (id other : ℕ) (v w : View E) → v.live ≡ true → v.keeper ≡ false → v.volume ≡ true → v.log ≡ true → w.live ≡ true → w.appends ≡ true → w.volume ≡ false → w.log ≡ false → Joins (IsKept client of_volume of_log) id v other w (rejoined v w) blank
  joins_aside id other v w alive simple volume log alive' may no_volume no_log s kept at apart there = let r = born client of_volume of_log s id v kept at (inl simple) in let n = r.0 in let p = r.2 in let there' = sym (set_else s.views id other (rejoined v w) apart) ∙ there in let f = p.each id v at alive in let g = p.each other w there' alive' in let lo = f.volume volume in let list = g.appends may in let hi = f.logs log in
      let n' : Now E = record n { append_seat = id } in
      let fit : Fits client n' id (rejoined v w) = record {
        knows = record { based = f.knows.based; listed = g.knows.listed; pointed = f.knows.pointed; durable = max-le g.knows.durable (omega (arith, hi.4)); stable = max-le g.knows.stable (omega (arith, hi.5)) };
        volume = f.volume;
        appends = λ _. (refl, lo.1, lo.2, omega (arith, lo.1, list.1, list.3), list.4, lo.4);
        logs = f.logs;
        passes = λ yes. let t = f.passes yes in (t.0, t.1, t.2, (λ ne. absurd (ne lo.1)), t.4, t.5);
        deals = f.deals;
      } in
      let others : (j : ℕ) (u : View E) → j ≢ id → j ≢ other → Fits client n j u → Fits client n' j u = λ j u ne ne' h. record { knows = h.knows; volume = h.volume; appends = λ yes. absurd (ne' ((h.appends yes).0 ∙ sym list.0)); logs = h.logs; passes = h.passes; deals = h.deals } in
      inl (n', r.1, takes_in n n' s.homes s.views id other v w (rejoined v w) p at apart there' refl refl refl refl refl refl refl refl refl no_volume no_log others fit p.ordered p.volume_home p.log_home)

  -- the last pass's seat takes in the next one
  pub takes_back : (id other : ℕ) (v w : View E) → v.live ≡ true → v.keeper ≡ false → v.main ≡ true → v.number ≡ v.dealt → w.live ≡ true → w.main ≡ true → w.volume ≡ false → w.log ≡ false → w.number + v.back + 1 ≡ v.dealt
      → Joins (IsKept client of_volume of_log) id v other w (took_back v w) blank
  takes_back id other v w alive simple plain last alive' main no_volume no_log named s kept at apart there = let r = born client of_volume of_log s id v kept at (inl simple) in let n = r.0 in let p = r.2 in let both : View E = took_back v w in let there' = sym (set_else s.views id other both apart) ∙ there in let f = p.each id v at alive in let g = p.each other w there' alive' in let mine = f.passes plain in let pass = g.passes main in
      let n' : Now E = record n { gone = n.gone + 1 } in
      let top : IsLast client n id v = ⊎_elim (λ (l : IsEarlier client n id v). absurd (omega (arith, l, last, mine.4))) (λ (l : IsLast client n id v). l) mine.5 in
      let same : v.back ≡ n.gone = top.1 in
      let away : w.number ≢ n.volume_turn = (λ e. let h = p.volume_held (λ z. omega (arith, e, pass.1)) in let t = (p.each n.volume_seat h.0 h.1 h.2).passes h.3 in
      no_yes (sym no_volume ∙ ap (λ (x : View E). x.volume) (some-injective w h.0 (sym there' ∙ ap (λ k. get_elem? s.views k) (pass.0 ∙ ap n.owner (e ∙ sym h.5) ∙ sym t.0) ∙ h.1)) ∙ h.4)) in
      let next : top.3.0 ≡ suc w.number = omega (arith, top.3.1, named, same, mine.4) in
      let own : AreOwn client w.number (w.list ∷ v.returned) n.list = (pass.3 away, subst (λ (k : ℕ). AreOwn client k v.returned n.list) next top.3.2) in
      let fit : Fits client n' id both = record {
        knows = record { based = f.knows.based; listed = f.knows.listed; pointed = f.knows.pointed; durable = max-le f.knows.durable g.knows.durable; stable = max-le f.knows.stable g.knows.stable };
        volume = f.volume;
        appends = f.appends;
        logs = f.logs;
        passes = λ yes. (mine.0, mine.1, mine.2, mine.3, mine.4, inr (last ∙ mine.4, ap (λ (k : ℕ). k + 1) same, omega (arith, top.2), (w.number, omega (arith, named, same, mine.4), own)));
        deals = λ yes. absurd (no_yes (sym simple ∙ yes));
      } in
      let others : (j : ℕ) (u : View E) → j ≢ id → j ≢ other → Fits client n j u → Fits client n' j u = λ j u ne ne' h. record {
        knows = h.knows;
        volume = h.volume;
        appends = h.appends;
        logs = h.logs;
        passes = λ yes. let t = h.passes yes in let differ : u.number ≢ w.number = (λ e. ne' (t.0 ∙ ap n.owner e ∙ sym pass.0)) in (
          t.0,
          t.1,
          t.2,
          t.3,
          t.4,
          ⊎_elim (λ (l : IsEarlier client n j u). inl (let more = further (u.number + n.gone + 1) n.total (omega arith) (λ e. differ (omega (arith, same, mine.4, named))) in omega arith))
              (λ (l : IsLast client n j u). absurd (ne (t.0 ∙ ap n.owner (l.0 ∙ sym mine.4 ∙ sym last) ∙ sym mine.0))) t.5,
        );
        deals = λ yes. let d = h.deals yes in absurd (omega (arith, d.3, mine.2, last, mine.4));
      } in
      inl (n', r.1, takes_in n n' s.homes s.views id other v w both p at apart there' refl refl refl refl refl refl refl refl refl no_volume no_log others fit p.ordered p.volume_home p.log_home)

  -- what the next pass owes
  module _ (n : Now E) (v : View E) (place : ℕ) (know : Knows n.base n.list n.points n.durable n.stable v.base v.list v.points v.durable v.stable) (o : IsOrdered client n) (mine : Deals client n n.keeper v) where
    abbrev next_owner : ℕ → ℕ
    next_owner k = cond (eqb k (v.dealt + 1)) place (n.owner k)

    abbrev next_now : Now E
    next_now = record n { dealt = n.dealt + 1; owner = next_owner }

    next_fits : (v.dealt + 1 < v.back) ⊎ (v.dealt + 1 ≡ v.back) → Fits client next_now place (fresh_pass v)
    next_fits which = record {
      knows = record { based = know.based; listed = (n.list, refl); pointed = (n.points, refl); durable = omega arith; stable = omega arith };
      volume = λ yes. absurd (no_yes yes);
      appends = λ yes. absurd (no_yes yes);
      logs = λ yes. absurd (no_yes yes);
      passes = λ _. (
        sym (ap (λ b. cond b place (n.owner (v.dealt + 1))) (eq-eqb (v.dealt + 1) (v.dealt + 1) refl)),
        omega arith,
        omega (arith, mine.1),
        (λ _. (n.list, refl, o.known (v.dealt + 1) (omega (arith, mine.1)))),
        mine.2,
        ⊎_elim (λ (l : v.dealt + 1 < v.back). inl (omega (arith, mine.2, mine.4))) (λ (e : v.dealt + 1 ≡ v.back). inr (e ∙ mine.2, sym mine.4, sym mine.4, (n.total, omega (arith, mine.4), tt))) which,
      );
      deals = λ yes. absurd (no_yes yes);
    }

    next_others : (id : ℕ) → id ≡ n.keeper → (j : ℕ) (u : View E) → j ≢ id → Fits client n j u → Fits client next_now j u
    next_others id here j u ne h = record {
      knows = h.knows;
      volume = h.volume;
      appends = λ yes. let t = h.appends yes in (t.0, t.1, t.2, omega (arith, t.3), t.4, t.5);
      logs = h.logs;
      passes = λ yes. let t = h.passes yes in (t.0 ∙ sym (ap (λ b. cond b place (n.owner u.number)) (ne_eqb u.number (v.dealt + 1) (λ e. omega (arith, t.2, mine.1)))), t.1, omega (arith, t.2), t.3, t.4, t.5);
      deals = λ yes. absurd (ne ((h.deals yes).0 ∙ sym here));
    }

    next_ordered : IsOrdered client next_now
    next_ordered = record { log_listed = o.log_listed; log_pointed = o.log_pointed; durable_listed = o.durable_listed; durable_taken = o.durable_taken; taken_listed = o.taken_listed; stable_pointed = o.stable_pointed; known = λ k far. o.known k (omega arith); within = o.within }

  -- the keeper deals a pass that is not the last
  pub deals_pass : (id : ℕ) (v : View E) → IsKeeper v → v.dealt + 1 < v.back → Splits (IsKept client of_volume of_log) id v (dealt_one v) (fresh_pass v)
  deals_pass id v is more s kept at = let r = born client of_volume of_log s id v kept at (inr is.4) in let n = r.0 in let p = r.2 in let f = p.each id v at is.0 in let mine = f.deals is.1 in let left : View E = dealt_one v in let vs : List (View E) = set s.views id left in
      let mine' : Deals client n n.keeper v = (refl, mine.1, mine.2, mine.3, mine.4) in
      let n' : Now E = next_now n v (length vs) f.knows p.ordered mine' in
      let fit : Fits client n' id left = record {
        knows = f.knows;
        volume = λ yes. absurd (no_yes (sym is.4 ∙ yes));
        appends = λ yes. absurd (no_yes (sym is.3 ∙ yes));
        logs = λ yes. absurd (no_yes (sym is.5 ∙ yes));
        passes = λ yes. absurd (no_yes (sym is.2 ∙ yes));
        deals = λ _. (mine.0, ap (λ (k : ℕ). k + 1) mine.1, mine.2, omega (arith, mine.1, mine.2), mine.4);
      } in
      inl (
        n',
        r.1,
        one_more n' s.homes vs (fresh_pass v) (steady client of_volume of_log n n' s.homes s.views id v left p at refl refl refl refl refl refl refl refl refl (next_others n v (length vs) f.knows p.ordered mine' id mine.0) fit (next_ordered n v (length vs) f.knows p.ordered mine') p.volume_home p.log_home)
            (λ _. next_fits n v (length vs) f.knows p.ordered mine' (inl more)),
      )

  -- the keeper becomes the last pass's seat
  pub becomes : (slots id : ℕ) (m : Seated V L E) → IsKeeper m.0 → m.0.dealt + 1 ≡ m.0.back → Allows (IsKept client of_volume of_log) slots id m 0 (λ k. k) (λ _ m'. m' ≡ (fresh_pass m.0, m.1))
  becomes slots id m is last = let v = m.0 in allows client of_volume of_log slots id m 0 (λ k. k) (λ _ m'. m' ≡ (fresh_pass m.0, m.1)) (inr is.4) (λ n homes views p at small. let f = p.each id v at is.0 in let mine = f.deals is.1 in let w : View E = fresh_pass v in
      let mine' : Deals client n n.keeper v = (refl, mine.1, mine.2, mine.3, mine.4) in
      let n' : Now E = next_now n v id f.knows p.ordered mine' in
      let stay : (has : View E → Bool) (k number : ℕ) → Holder has views k number → Holder has (set views id w) k number = λ has k number h. (h.0, set_else views id k w (λ e. no_yes (sym is.2 ∙ ap (λ (u : View E). u.main) (some-injective v h.0 (sym at ∙ ap (λ i. get_elem? views i) (sym e) ∙ h.1)) ∙ h.3)) ∙ h.1, h.2, h.3, h.4, h.5) in (
        w,
        keeps,
        tt,
        (
          n',
          refl,
          moves client of_volume of_log n n' homes homes views id v w p at (next_others n v id f.knows p.ordered mine' id mine.0) (next_fits n v id f.knows p.ordered mine' (inr last)) (next_ordered n v id f.knows p.ordered mine') p.two p.volume_home p.log_home
              (λ ne. stay has_volume n.volume_seat n.volume_turn (p.volume_held ne)) (λ ne. stay has_log n.log_seat n.log_turn (p.log_held ne)),
        ),
        refl,
      ))

  -- once every pass is back, both values are at home
  pub all_back : (id : ℕ) (v : View E) (s : State (Held V L) (View E)) → IsKept client of_volume of_log s → get_elem? s.views id ≡ some v → IsFree v → v.number ≡ v.dealt → v.back + 1 ≡ v.dealt
      → (n : Now E) × VolumeHome client of_volume of_log n s.homes × LogHome client of_volume of_log n s.homes × IsOrdered client n
      × Knows n.base n.list n.points n.durable n.stable v.base v.list v.points v.durable v.stable × HasOwn client v.number v.list n.list × AreOwn client 1 v.returned n.list × (v.number ≡ n.total)
  all_back id v s kept at is last all = let r = born client of_volume of_log s id v kept at (inl is.2) in let n = r.0 in let p = r.2 in let f = p.each id v at is.0 in let mine = f.passes is.1 in
      let top : IsLast client n id v = ⊎_elim (λ (l : IsEarlier client n id v). absurd (omega (arith, l, last, mine.4))) (λ (l : IsLast client n id v). l) mine.5 in
      let out : (has : View E → Bool) (k number : ℕ) → has v ≡ false → Holder has s.views k number → ⊥ = λ has k number no h. let t = (p.each k h.0 h.1 h.2).passes h.3 in
      ⊎_elim (λ (l : IsEarlier client n k h.0). omega (arith, l, t.1, all, mine.4, top.1))
      (λ (l : IsLast client n k h.0). let here : k ≡ id = t.0 ∙ ap n.owner (l.0 ∙ sym mine.4 ∙ sym last) ∙ sym mine.0 in no_yes (sym no ∙ ap has (some-injective v h.0 (sym at ∙ ap (λ i. get_elem? s.views i) (sym here) ∙ h.1)) ∙ h.4)) t.5 in
      let free : n.volume_turn ≡ 0 = dite (ℕ_discrete n.volume_turn 0) (λ e. e) (λ ne. absurd (out has_volume n.volume_seat n.volume_turn is.4 (p.volume_held ne))) in (
        n,
        p.volume_home free,
        p.log_home (dite (ℕ_discrete n.log_turn 0) (λ e. e) (λ ne. absurd (out has_log n.log_seat n.log_turn is.5 (p.log_held ne)))),
        p.ordered,
        f.knows,
        mine.3 (λ e. omega (arith, mine.1, e, free)),
        subst (λ (k : ℕ). AreOwn client k v.returned n.list) (omega (arith, top.3.1, top.1, all, mine.4)) top.3.2,
        top.0,
      )
