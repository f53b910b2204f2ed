-- The log turn's steps, and loads of the durable count, keep the rule.
use Rattle.std.proofs.Common.{◌≡◌, ◌≢◌, ℕ, ◌<◌, ◌≤◌, List, length, set, sym, refl, ap, ◌∙◌, subst, arith, true, false, eqb, inl, le_trans, max, length-set}
use mathlib.Core.Option.{none, some}
use Rattle.std.proofs.Math.Nat.{le-max_left, le-max_right, max-le}
use prog.Atomic.{either}
use Rattle.atomic_table.specs.Table.{Act, keeps, takes, gives, Valid, homes_after, carried_after, Allows}
use Rattle.atomic_table.proofs.Lists.{set_here, set_else, set_again, exchanged}
use Rattle.jfs_turns.specs.Views.{Seated, carried}
use Rattle.jfs_turns.specs.Standing.{Standing, LogStands}
use Rattle.jfs_turns.specs.Rule.{IsKept, Now, words_of, Fits, IsOrdered, has_volume, Parts, Ruled}
use Rattle.jfs_turns.specs.Told.{saw_durable, took_log, raised, gave_log}
use Rattle.jfs_turns.proofs.Steps.{at_length, no_yes, moves, allows, held_on, steady}
use Rattle.jfs_turns.specs.declared.view.View.{View}
use Rattle.jfs_turns.specs.declared.view.Held.{Held}
use Rattle.jfs_turns.specs.declared.view.Held.TheVariants.{Log}

module _ {V L E : Type 0} (client : E → ℕ) (of_volume : Standing V E) (of_log : Standing L E) where
  -- the seat sees the durable count
  pub sees_durable : (slots id : ℕ) (m : Seated V L E) → m.0.live ≡ true → m.0.keeper ≡ false → Allows (IsKept client of_volume of_log) slots id m 3 (λ k. k) (saw_durable m)
  sees_durable slots id m alive plain = let v = m.0 in allows client of_volume of_log slots id m 3 (λ k. k) (saw_durable m) (inl plain) (λ n homes views p at small. let f = p.each id v at alive in let know = f.knows in
      let w : View E = record v { durable = n.durable } in
      let fit : Fits client n id w = record {
        knows = record { based = know.based; listed = know.listed; pointed = know.pointed; durable = omega arith; stable = know.stable };
        volume = f.volume;
        appends = f.appends;
        logs = f.logs;
        passes = f.passes;
        deals = f.deals;
      } in (w, keeps, tt, (n, refl, steady client of_volume of_log n n homes views id v w p at refl refl refl refl refl refl refl refl refl (λ j u ne g. g) fit p.ordered p.volume_home p.log_home), (refl, know.durable, (λ yes. omega (arith, (f.appends yes).5, p.ordered.durable_taken)))))

  -- the seat takes the log turn
  pub takes_log : (slots id : ℕ) (m : Seated V L E) (number : ℕ) → m.0.live ≡ true → m.0.keeper ≡ false → m.0.main ≡ true → number ≡ m.0.number → Allows (IsKept client of_volume of_log) slots id m 1 (λ k. either (eqb k 0) number k) (took_log of_log m)
  takes_log slots id m number alive plain main named = let v = m.0 in allows client of_volume of_log slots id m 1 (λ k. either (eqb k 0) number k) (took_log of_log m) (inl plain) (λ n homes views p at small. let fits = p.each id v at alive in let pass = fits.passes main in
      let F : ℕ → Type 0 = λ k. (w : View E) × (a : Act (Held V L)) × Valid homes m.1 a × Ruled client of_volume of_log record { words = set (words_of n) 1 k; homes = homes_after homes m.1 a; views = set views id w } × took_log of_log m n.log_turn (w, carried_after m.1 a) in
      exchanged n.log_turn 0 number F
      (λ free. let home = p.log_home free in let know = fits.knows in
      let n' : Now E = record n { log_turn = number; log_seat = id } in
      let w : View E = record v { log = true; taken = n.taken; durable = n.durable; stable = n.stable; log_durable = n.durable; log_stable = n.stable; log_list = n.log_list; log_points = n.log_points } in
      let positive : 0 < v.number = omega (arith, pass.1) in
      let mine : Fits client n' id w = record {
        knows = record { based = know.based; listed = know.listed; pointed = know.pointed; durable = omega arith; stable = omega arith };
        volume = λ yes. let t = fits.volume yes in (t.0, t.1, t.2, t.3, refl);
        appends = λ yes. let t = fits.appends yes in (t.0, t.1, t.2, t.3, t.4, refl);
        logs = λ _. (refl, sym named, positive, refl, refl, refl, refl, refl);
        passes = fits.passes;
        deals = fits.deals;
      } in
      let others : (j : ℕ) (u : View E) → j ≢ id → Fits client n j u → Fits client n' j u = λ j u ne f. record {
        knows = f.knows;
        volume = f.volume;
        appends = f.appends;
        logs = λ yes. let t = f.logs yes in absurd (omega (arith, t.1, t.2));
        passes = f.passes;
        deals = f.deals;
      } in (
        w,
        takes 1 (Log home.0),
        home.1,
        (
          n',
          refl,
          moves client of_volume of_log n n' homes (set homes 1 none) views id v w p at others mine p.ordered (length-set homes 1 none ∙ p.two)
              (λ e. let h = p.volume_home e in (h.0, h.1, h.2, set_else homes 1 0 none (λ x. omega arith) ∙ h.3, h.4, h.5, h.6))
              (λ e. absurd (omega arith))
              (λ e. held_on client of_volume of_log has_volume views n.volume_seat n.volume_turn id v w at refl refl refl refl (p.volume_held e))
              (λ _. (w, set_here views id w (at_length views id v at), alive, main, refl, sym named)),
        ),
        ((λ _. (home.0, refl, subst (λ (b : List (List ℕ)). of_log home.0 b n.log_list n.taken n.durable n.log_points n.stable) (sym know.based) home.2, (refl, know.durable, know.stable, (let o = p.ordered in (o.durable_taken, o.durable_listed, o.stable_pointed))))), (λ ne. absurd (ne free))),
      ))
      (λ taken. (v, keeps, tt, (n, refl, subst (λ (vs : List (View E)). Parts client of_volume of_log n homes vs) (sym (set_again views id v at)) p), ((λ e. absurd (taken e)), (λ _. refl)))))

  -- the log turn's seat raises the durable count
  pub raises : (slots id : ℕ) (m : Seated V L E) (k : ℕ) → m.0.live ≡ true → m.0.keeper ≡ false → m.0.log ≡ true → k ≤ length m.0.log_list → k ≤ m.0.taken → Allows (IsKept client of_volume of_log) slots id m 3 (λ x. max x k) (λ _ m'. raised k m m')
  raises slots id m k alive plain log within taken = let v = m.0 in allows client of_volume of_log slots id m 3 (λ x. max x k) (λ _ m'. raised k m m') (inl plain) (λ n homes views p at small. let f = p.each id v at alive in let know = f.knows in let mine = f.logs log in let o = p.ordered in
      let n' : Now E = record n { durable = max n.durable k } in
      let w : View E = record v { durable = max v.durable k; log_durable = max v.log_durable k } in
      let more : n.durable ≤ max n.durable k = le-max_left n.durable k in
      let others : (j : ℕ) (u : View E) → j ≢ id → Fits client n j u → Fits client n' j u = λ j u ne g. record {
        knows = record { based = g.knows.based; listed = g.knows.listed; pointed = g.knows.pointed; durable = le_trans g.knows.durable more; stable = g.knows.stable };
        volume = g.volume;
        appends = g.appends;
        logs = λ yes. absurd (ne ((g.logs yes).0 ∙ sym mine.0));
        passes = g.passes;
        deals = g.deals;
      } in
      let same : max v.log_durable k ≡ max n.durable k = ap (λ (x : ℕ). max x k) mine.4 in
      let fit : Fits client n' id w = record {
        knows = record { based = know.based; listed = know.listed; pointed = know.pointed; durable = max-le (le_trans know.durable more) (le-max_right n.durable k); stable = know.stable };
        volume = f.volume;
        appends = f.appends;
        logs = λ yes. (mine.0, mine.1, mine.2, mine.3, same, mine.5, mine.6, mine.7);
        passes = f.passes;
        deals = f.deals;
      } in
      let ordered : IsOrdered client n' = record {
        log_listed = o.log_listed;
        log_pointed = o.log_pointed;
        durable_listed = max-le o.durable_listed (omega (arith, ap (λ (l : List E). length l) mine.6));
        durable_taken = max-le o.durable_taken (omega (arith, mine.3));
        taken_listed = o.taken_listed;
        stable_pointed = o.stable_pointed;
        known = o.known;
        within = o.within;
      } in (
        w,
        keeps,
        tt,
        (
          n',
          refl,
          steady client of_volume of_log n n' homes views id v w p at refl refl refl refl refl refl refl refl refl others fit ordered
              (λ e. let h = p.volume_home e in (h.0, h.1, h.2, h.3, h.4, le_trans h.5 more, h.6)) (λ e. absurd (omega (arith, mine.1, mine.2))),
        ),
        refl,
      ))

  -- the seat gives the log turn
  pub gives_log : (slots id : ℕ) (m : Seated V L E) (v : View E) (x : L) (more : List (ℕ × Held V L)) → m ≡ (v, carried 1 (Log x) more) → v.live ≡ true → v.keeper ≡ false → v.log ≡ true → LogStands of_log x v
      → Allows (IsKept client of_volume of_log) slots id m 1 (λ _. 0) (λ _ m'. gave_log m m')
  gives_log slots id m v x more is alive plain log stands = subst (λ (m : Seated V L E). Allows (IsKept client of_volume of_log) slots id m 1 (λ _. 0) (λ _ m'. gave_log m m')) (sym is)
      (let m : Seated V L E = (v, carried 1 (Log x) more) in allows client of_volume of_log slots id m 1 (λ _. 0) (λ _ m'. gave_log m m') (inl plain) (λ n homes views p at small. let f = p.each id v at alive in let mine = f.logs log in let know = f.knows in
      let n' : Now E = record n { log_turn = 0 } in
      let w : View E = record v { log = false } in
      let others : (j : ℕ) (u : View E) → j ≢ id → Fits client n j u → Fits client n' j u = λ j u ne g. record {
        knows = g.knows;
        volume = g.volume;
        appends = g.appends;
        logs = λ yes. absurd (ne ((g.logs yes).0 ∙ sym mine.0));
        passes = g.passes;
        deals = g.deals;
      } in
      let fit : Fits client n' id w = record {
        knows = know;
        volume = f.volume;
        appends = f.appends;
        logs = λ yes. absurd (no_yes yes);
        passes = f.passes;
        deals = f.deals;
      } in (
        w,
        gives,
        tt,
        (
          n',
          refl,
          moves client of_volume of_log n n' homes (set homes 1 (some (Log x))) views id v w p at others fit p.ordered (length-set homes 1 (some (Log x)) ∙ p.two)
              (λ e. let h = p.volume_home e in (h.0, h.1, h.2, set_else homes 1 0 (some (Log x)) (λ y. omega arith) ∙ h.3, h.4, h.5, h.6))
              (λ _. (
                x,
                set_here homes 1 (some (Log x)) (omega (arith, p.two)),
                subst (λ (z : (List (List ℕ)) × (List E) × ℕ × ℕ × (List ℕ) × ℕ). of_log x z.0 z.1 z.2 z.3 z.4 z.5) (λ k. (know.based k, mine.6 k, mine.3 k, mine.4 k, mine.7 k, mine.5 k)) stands,
              ))
              (λ y. held_on client of_volume of_log has_volume views n.volume_seat n.volume_turn id v w at refl refl refl refl (p.volume_held y))
              (λ ne. absurd (ne refl)),
        ),
        refl,
      )))
