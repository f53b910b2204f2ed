-- The table's start, and what else keeps the rule once it has started.
use Rattle.std.proofs.Common.{◌≡◌, ℕ, zero, suc, ◌<◌, List, [], ◌∷◌, length, set, get_or, sym, refl, ap, min, ◌∙◌, subst, arith, true, inl, inr, ⊎_elim, length-set}
use mathlib.Core.Option.{Option, none, some}
use lib.ListN.{get_elem?}
use Rattle.atomic_table.specs.Table.{State, chain, takes, gives, Allows}
use Rattle.atomic_table.proofs.Lists.{set_here, set_else}
use Rattle.std.proofs.Math.Nat.{zero-min}
use Rattle.jfs_turns.specs.Views.{Seated, carried, unborn, ready, keeping}
use Rattle.jfs_turns.specs.Standing.{Standing}
use Rattle.jfs_turns.specs.Rule.{IsKept, Now, Fits, Parts, Ruled}
use Rattle.jfs_turns.proofs.Steps.{prefix_refl, no_yes, at_only}
use Rattle.jfs_turns.specs.declared.view.View.{View}
use Rattle.jfs_turns.specs.declared.view.Held.{Held}
use Rattle.jfs_turns.specs.declared.view.Held.TheVariants.{Volume, Log, Nothing}

module _ {V L E : Type 0} (client : E → ℕ) (of_volume : Standing V E) (of_log : Standing L E) where
  never : (s : State (Held V L) (View E)) (id : ℕ) (v : View E) → Ruled client of_volume of_log s → get_elem? s.views id ≡ some v → v.live ≡ true → v.volume ≡ true → v.number ≡ 0 → ⊥
  never s id v r at alive volume zeroed = let t = (r.2.each id v at alive).volume volume in omega (arith, t.2)

  -- the first seat takes both slots
  pub takes_both : (slots id : ℕ) (m : Seated V L E) → m ≡ (unborn, []) → Allows (IsKept client of_volume of_log) slots id m 0 (λ k. k) (λ _ m'. m' ≡ (ready, carried 0 Nothing (carried 1 Nothing [])))
  takes_both slots id m is = subst (λ (m : Seated V L E). Allows (IsKept client of_volume of_log) slots id m 0 (λ k. k) (λ _ m'. m' ≡ (ready, carried 0 Nothing (carried 1 Nothing [])))) (sym is) go
    where
      go : Allows (IsKept client of_volume of_log) slots id (unborn, []) 0 (λ k. k) (λ _ m'. m' ≡ (ready, carried 0 Nothing (carried 1 Nothing [])))
      go s (inl r) wide at small = absurd (never s id unborn r at refl refl refl)
      go s (inr u) wide at small = ⊎_elim (λ (t : (s.views ≡ unborn ∷ []) × (s.homes ≡ some Nothing ∷ some Nothing ∷ [])). let zeroth = (at_only unborn unborn id (ap (λ (l : List (View E)). get_elem? l id) (sym t.0) ∙ at)).0 in (
        ready,
        chain (takes 1 Nothing) (takes 0 Nothing),
        (ap (λ (l : List (Option (Held V L))). get_elem? l 1) t.1, ap (λ (l : List (Option (Held V L))). get_elem? (set l 1 none) 0) t.1),
        inr (ap (λ (l : List ℕ). set l 0 (get_or l 0 0)) u.0, inr (ap (λ (l : List (View E)). set l id ready) t.0 ∙ ap (λ (k : ℕ). set (unborn ∷ []) k ready) zeroth, ap (λ (l : List (Option (Held V L))). length (set (set l 1 none) 0 none)) t.1)),
        refl,
      )) (λ (t : (s.views ≡ ready ∷ []) × (length s.homes ≡ 2)). absurd (zero_one (ap (λ (x : View E). x.taken) (at_only ready unborn id (ap (λ (l : List (View E)). get_elem? l id) (sym t.0) ∙ at)).1))) u.1
        where
          zero_one : suc zero ≡ zero → ⊥
          zero_one e = omega arith

  abbrev first_now : List (List ℕ) → ℕ → Now E
  first_now base total = record { base = base; list = []; log_list = []; points = []; log_points = []; taken = 0; durable = 0; stable = 0; volume_turn = 0; log_turn = 0; volume_seat = 0; append_seat = 0; log_seat = 0; owner = λ _. 0; keeper = 0; dealt = 0; total = total; gone = 0 }

  -- the first seat gives both slots their values, and is the keeper
  pub opens : (slots id : ℕ) (m : Seated V L E) (base : List (List ℕ)) (total : ℕ) (x : V) (y : L) → m ≡ (ready, carried 0 (Volume x) (carried 1 (Log y) [])) → of_volume x base [] 0 0 [] 0 → of_log y base [] 0 0 [] 0 → 0 < total
      → Allows (IsKept client of_volume of_log) slots id m 5 (λ k. min k total) (λ _ m'. m' ≡ (keeping base total, []))
  opens slots id m base total x y is lo hi some_pass = subst (λ (m : Seated V L E). Allows (IsKept client of_volume of_log) slots id m 5 (λ k. min k total) (λ _ m'. m' ≡ (keeping base total, []))) (sym is) go
    where
      fit : Fits client (first_now base total) 0 (keeping base total)
      fit = record {
        knows = record { based = refl; listed = prefix_refl []; pointed = prefix_refl []; durable = omega arith; stable = omega arith };
        volume = λ yes. absurd (no_yes yes);
        appends = λ yes. absurd (no_yes yes);
        logs = λ yes. absurd (no_yes yes);
        passes = λ yes. absurd (no_yes yes);
        deals = λ _. (refl, refl, refl, some_pass, refl);
      }

      parts : (homes : List (Option (Held V L))) → length homes ≡ 2 → Parts client of_volume of_log (first_now base total) (set (set homes 0 (some (Volume x))) 1 (some (Log y))) (keeping base total ∷ [])
      parts homes two = record {
        ordered = record { log_listed = prefix_refl []; log_pointed = refl; durable_listed = omega arith; durable_taken = omega arith; taken_listed = omega arith; stable_pointed = omega arith; known = λ _ _. tt; within = tt };
        two = length-set (set homes 0 (some (Volume x))) 1 (some (Log y)) ∙ (length-set homes 0 (some (Volume x)) ∙ two);
        each = λ j u e alive. let t = at_only (keeping base total) u j e in subst (λ (z : ℕ × View E). Fits client (first_now base total) z.0 z.1) (λ k. (sym t.0 k, t.1 k)) fit;
        volume_home = λ _. (x, 0, 0, set_else (set homes 0 (some (Volume x))) 1 0 (some (Log y)) (λ e. omega arith) ∙ set_here homes 0 (some (Volume x)) (omega arith), lo, omega arith, omega arith);
        log_home = λ _. (y, set_here (set homes 0 (some (Volume x))) 1 (some (Log y)) (omega (arith, length-set homes 0 (some (Volume x)))), hi);
        volume_held = λ ne. absurd (ne refl);
        log_held = λ ne. absurd (ne refl);
      }

      go : Allows (IsKept client of_volume of_log) slots id (ready, carried 0 (Volume x) (carried 1 (Log y) [])) 5 (λ k. min k total) (λ _ m'. m' ≡ (keeping base total, []))
      go s (inl r) wide at small = absurd (never s id ready r at refl refl refl)
      go s (inr u) wide at small = ⊎_elim (λ (t : (s.views ≡ unborn ∷ []) × (s.homes ≡ some Nothing ∷ some Nothing ∷ [])). absurd (zero_one (sym (ap (λ (x : View E). x.taken) (at_only unborn ready id (ap (λ (l : List (View E)). get_elem? l id) (sym t.0) ∙ at)).1))))
          (λ (t : (s.views ≡ ready ∷ []) × (length s.homes ≡ 2)). let zeroth = (at_only ready ready id (ap (λ (l : List (View E)). get_elem? l id) (sym t.0) ∙ at)).0 in (
            keeping base total,
            chain gives gives,
            (tt, tt),
            inl (
              first_now base total,
              ap (λ (l : List ℕ). set l 5 (min (get_or l 5 0) total)) u.0 ∙ ap (λ (k : ℕ). 0 ∷ 0 ∷ 0 ∷ 0 ∷ 0 ∷ k ∷ []) (zero-min total),
              subst (λ (l : List (View E)). Parts client of_volume of_log (first_now base total) (set (set s.homes 0 (some (Volume x))) 1 (some (Log y))) l) (sym (ap (λ (l : List (View E)). set l id (keeping base total)) t.0 ∙ ap (λ (k : ℕ). set (ready ∷ []) k (keeping base total)) zeroth)) (parts s.homes t.1),
            ),
            refl,
          )) u.1
        where
          zero_one : suc zero ≡ zero → ⊥
          zero_one e = omega arith
