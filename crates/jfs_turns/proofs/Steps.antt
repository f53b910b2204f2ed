-- Each step keeps the rule.
use Rattle.std.proofs.Common.{◌≡◌, ◌≢◌, ℕ, zero, suc, ◌+◌, ◌%◌, ◌<◌, ◌≤◌, List, [], ◌∷◌, ◌++◌, length, set, get_or, sym, refl, ap, ◌∙◌, subst, arith, Bool, true, false, cond, eqb, inl, inr, ⊎_elim, ◌⊎◌, append_assoc, append-nil, length-append, length-set}
use mathlib.Core.Logic.{dite}
use mathlib.Core.Option.{Option, none, some, some-injective, some-ne-none}
use Rattle.std.proofs.Math.Nat.{mod-eq_of_lt}
use native.Mathlib.Decide.{ℕ_discrete}
use lib.ListN.{get_elem?}
use prog.Atomic.{either}
use Rattle.atomic_table.specs.Table.{State, Act, keeps, takes, gives, Valid, homes_after, carried_after, Allows}
use Rattle.atomic_table.proofs.Lists.{at_set, set_here, set_else, set_again, exchanged}
use Rattle.jfs_turns.specs.Lists.{IsPrefix, Lacks, HasOwn, AreOwn, AreOfClients}
use Rattle.jfs_turns.specs.Views.{Seated, carried, unborn, ready, IsIdle}
use Rattle.jfs_turns.specs.Standing.{Standing, VolumeStands}
use Rattle.jfs_turns.specs.Rule.{IsKept, Now, words_of, Fits, IsEarlier, IsLast, IsOrdered, Holder, has_volume, has_log, VolumeHome, LogHome, Parts, Ruled}
use Rattle.jfs_turns.specs.Told.{took_volume, appended, gave_volume}
use Rattle.jfs_turns.specs.declared.view.View.{View}
use Rattle.jfs_turns.specs.declared.view.Held.{Held}
use Rattle.jfs_turns.specs.declared.view.Held.TheVariants.{Volume, Nothing}

pub at_length : {A : Type 0} (l : List A) (i : ℕ) (a : A) → get_elem? l i ≡ some a → i < length l
at_length [] i a e = absurd (mathlib.Core.Option.some-ne-none a (sym e))
at_length (x ∷ xs) zero a e = omega arith
at_length (x ∷ xs) (suc i) a e = let h = at_length xs i a e in omega arith

pub prefix_refl : {A : Type 0} (xs : List A) → IsPrefix xs xs
prefix_refl xs = ([], append-nil xs)

pub prefix_more : {A : Type 0} (xs ys : List A) (e : A) → IsPrefix xs ys → IsPrefix xs (ys ++ e ∷ [])
prefix_more {A} xs ys e f = (f.0 ++ e ∷ [], sym (append_assoc xs f.0 (e ∷ [])) ∙ ap (λ (l : List A). l ++ e ∷ []) f.1)

pub prefix_length : {A : Type 0} (xs ys : List A) → IsPrefix xs ys → length xs ≤ length ys
prefix_length {A} xs ys f = omega (arith, length-append xs f.0, ap (λ (l : List A). length l) f.1)

pub no_yes : false ≡ true → ⊥
no_yes e = subst (λ b. cond b ⊥ (Unit {0})) e tt

module _ {E : Type 0} (client : E → ℕ) where
  lacks_more : (e : E) (k : ℕ) → client e ≢ k → (xs : List E) → Lacks client k xs → Lacks client k (xs ++ e ∷ [])
  lacks_more e k ne [] l = (ne, tt)
  lacks_more e k ne (x ∷ xs) l = (l.0, lacks_more e k ne xs l.1)

  within_more : (e : E) (most : ℕ) (xs : List E) → 1 ≤ client e → client e ≤ most → AreOfClients client most xs → AreOfClients client most (xs ++ e ∷ [])
  within_more e most [] least greatest all = ((least, greatest), tt)
  within_more e most (x ∷ xs) least greatest all = (all.0, within_more e most xs least greatest all.1)

  own_more : (xs ys : List E) (e : E) (k : ℕ) → client e ≢ k → HasOwn client k xs ys → HasOwn client k xs (ys ++ e ∷ [])
  own_more xs ys e k ne h = (h.0 ++ e ∷ [], sym (append_assoc xs h.0 (e ∷ [])) ∙ ap (λ (l : List E). l ++ e ∷ []) h.1, lacks_more e k ne h.0 h.2)

  owns_more : (e : E) (k : ℕ) (ls : List (List E)) (ys : List E) → (client e < k) ⊎ (k + length ls ≤ client e) → AreOwn client k ls ys → AreOwn client k ls (ys ++ e ∷ [])
  owns_more e k [] ys far all = tt
  owns_more e k (xs ∷ ls) ys far all = (own_more xs ys e k (λ same. ⊎_elim (λ l. omega (arith, l, same)) (λ l. omega (arith, l, same)) far) all.0, owns_more e (suc k) ls ys (⊎_elim (λ l. inl (omega arith)) (λ l. inr (omega arith)) far) all.1)

pub at_only : {A : Type 0} (x v : A) (i : ℕ) → get_elem? (x ∷ []) i ≡ some v → (i ≡ 0) × (x ≡ v)
at_only x v zero e = (refl, some-injective x v e)
at_only x v (suc i) e = absurd (some-ne-none v (sym e))

module _ {V L E : Type 0} (client : E → ℕ) (of_volume : Standing V E) (of_log : Standing L E) where
  Homes : Type 0
  Homes = List (Option (Held V L))

  -- one seat moves, and with it what all know
  pub moves : (n n' : Now E) (homes homes' : List (Option (Held V L))) (views : List (View E)) (id : ℕ) (v w : View E) → Parts client of_volume of_log n homes views → get_elem? views id ≡ some v
      → ((j : ℕ) (u : View E) → j ≢ id → Fits client n j u → Fits client n' j u) → Fits client n' id w → IsOrdered client n'
      → length homes' ≡ 2 → (n'.volume_turn ≡ 0 → VolumeHome client of_volume of_log n' homes') → (n'.log_turn ≡ 0 → LogHome client of_volume of_log n' homes')
      → (n'.volume_turn ≢ 0 → Holder has_volume (set views id w) n'.volume_seat n'.volume_turn) → (n'.log_turn ≢ 0 → Holder has_log (set views id w) n'.log_seat n'.log_turn)
      → Parts client of_volume of_log n' homes' (set views id w)
  moves n n' homes homes' views id v w p at others mine ordered two volume_home log_home volume_held log_held = record {
    ordered = ordered;
    two = two;
    each = λ j u e alive. ⊎_elim (λ (t : (j ≡ id) × (w ≡ u)). subst (λ (y : ℕ × View E). Fits client n' y.0 y.1) (λ k. (sym t.0 k, t.1 k)) mine)
        (λ (t : (j ≢ id) × (get_elem? views j ≡ some u)). others j u t.0 (p.each j u t.1 alive)) (at_set views id j w u e);
    volume_home = volume_home;
    log_home = log_home;
    volume_held = volume_held;
    log_held = log_held;
  }

  -- a seat that is not the first one shows that the table has started
  pub born : (s : State (Held V L) (View E)) (id : ℕ) (v : View E) → IsKept client of_volume of_log s → get_elem? s.views id ≡ some v → (v.keeper ≡ false) ⊎ (v.volume ≡ false) → Ruled client of_volume of_log s
  born s id v (inl r) at other = r
  born s id v (inr u) at other = absurd (⊎_elim (λ (t : (s.views ≡ unborn ∷ []) × (s.homes ≡ some Nothing ∷ some Nothing ∷ [])). differ unborn refl refl t.0) (λ (t : (s.views ≡ ready ∷ []) × (length s.homes ≡ 2)). differ ready refl refl t.0) u.1)
    where
      differ : (first : View E) → first.keeper ≡ true → first.volume ≡ true → s.views ≡ first ∷ [] → ⊥
      differ first keeper volume e = let same = (at_only first v id (ap (λ (l : List (View E)). get_elem? l id) (sym e) ∙ at)).1 in
          ⊎_elim (λ no. no_yes (sym no ∙ sym (ap (λ (x : View E). x.keeper) same) ∙ keeper)) (λ no. no_yes (sym no ∙ sym (ap (λ (x : View E). x.volume) same) ∙ volume)) other

  -- a rule's step is one on the words as the numbers say them
  pub allows : (slots id : ℕ) (m : Seated V L E) (i : ℕ) (f : ℕ → ℕ) (then : ℕ → Seated V L E → Type 0) → (m.0.keeper ≡ false) ⊎ (m.0.volume ≡ false)
      → ((n : Now E) (homes : List (Option (Held V L))) (views : List (View E)) → Parts client of_volume of_log n homes views → get_elem? views id ≡ some m.0 → get_or (words_of n) i 0 < 18446744073709551616
      → (w : View E) × (a : Act (Held V L)) × Valid homes m.1 a × Ruled client of_volume of_log record { words = set (words_of n) i (f (get_or (words_of n) i 0)); homes = homes_after homes m.1 a; views = set views id w }
      × then (get_or (words_of n) i 0) (w, carried_after m.1 a))
      → Allows (IsKept client of_volume of_log) slots id m i f then
  allows slots id m i f then other go s kept wide at small = let r = born s id m.0 kept at other in let P : List ℕ → Type 0 = λ ws. (w : View E) × (a : Act (Held V L)) × Valid s.homes m.1 a × IsKept client of_volume of_log record { words = set ws i (f (get_or ws i 0)); homes = homes_after s.homes m.1 a; views = set s.views id w } × then (get_or ws i 0) (w, carried_after m.1 a) in
      subst P (sym r.1) (let t = go r.0 s.homes s.views r.2 at (subst (λ (ws : List ℕ). get_or ws i 0 < 18446744073709551616) r.1 small) in (t.0, t.1, t.2, inl t.3, t.4))

  -- the holder's seat moves and stays the pass's
  pub held_on : (has : View E → Bool) (views : List (View E)) (at number id : ℕ) (v w : View E) → get_elem? views id ≡ some v → w.live ≡ v.live → w.main ≡ v.main → has w ≡ has v → w.number ≡ v.number
      → Holder has views at number → Holder has (set views id w) at number
  held_on has views at number id v w here live main turn named h = dite (ℕ_discrete at id)
      (λ e. let same : v ≡ h.0 = some-injective v h.0 (sym here ∙ ap (λ k. get_elem? views k) (sym e) ∙ h.1) in
      (w, ap (λ k. get_elem? (set views id w) k) e ∙ set_here views id w (at_length views id v here), live ∙ ap (λ (u : View E). u.live) same ∙ h.2, main ∙ ap (λ (u : View E). u.main) same ∙ h.3, turn ∙ ap has same ∙ h.4, named ∙ ap (λ (u : View E). u.number) same ∙ h.5))
      (λ ne. (h.0, set_else views id at w ne ∙ h.1, h.2, h.3, h.4, h.5))

  -- a seat moves that keeps its turns, and no value moves
  pub steady : (n n' : Now E) (homes : List (Option (Held V L))) (views : List (View E)) (id : ℕ) (v w : View E) → Parts client of_volume of_log n homes views → get_elem? views id ≡ some v
      → w.live ≡ v.live → w.main ≡ v.main → w.number ≡ v.number → w.volume ≡ v.volume → w.log ≡ v.log
      → n'.volume_turn ≡ n.volume_turn → n'.volume_seat ≡ n.volume_seat → n'.log_turn ≡ n.log_turn → n'.log_seat ≡ n.log_seat
      → ((j : ℕ) (u : View E) → j ≢ id → Fits client n j u → Fits client n' j u) → Fits client n' id w → IsOrdered client n'
      → (n.volume_turn ≡ 0 → VolumeHome client of_volume of_log n' homes) → (n.log_turn ≡ 0 → LogHome client of_volume of_log n' homes)
      → Parts client of_volume of_log n' homes (set views id w)
  steady n n' homes views id v w p at live main named volume log lt ls ht hs others fit ordered volume_home log_home = moves n n' homes homes views id v w p at others fit ordered p.two (λ e. volume_home (sym lt ∙ e)) (λ e. log_home (sym ht ∙ e))
      (λ ne. subst (λ (z : ℕ × ℕ). Holder has_volume (set views id w) z.0 z.1) (λ k. (sym ls k, sym lt k)) (held_on has_volume views n.volume_seat n.volume_turn id v w at live main volume named (p.volume_held (λ e. ne (lt ∙ e)))))
      (λ ne. subst (λ (z : ℕ × ℕ). Holder has_log (set views id w) z.0 z.1) (λ k. (sym hs k, sym ht k)) (held_on has_log views n.log_seat n.log_turn id v w at live main log named (p.log_held (λ e. ne (ht ∙ e)))))

  -- the seat takes the volume turn
  pub takes_volume : (slots id : ℕ) (m : Seated V L E) (number : ℕ) → IsIdle m → number ≡ m.0.number → Allows (IsKept client of_volume of_log) slots id m 0 (λ k. either (eqb k 0) number k) (took_volume client of_volume m)
  takes_volume slots id m number idle named = let v = m.0 in allows slots id m 0 (λ k. either (eqb k 0) number k) (took_volume client of_volume m) (inr idle.2) (λ n homes views p at small. let fits = p.each id v at idle.0 in let pass = fits.passes idle.1 in
      let F : ℕ → Type 0 = λ k. (w : View E) × (a : Act (Held V L)) × Valid homes m.1 a × Ruled client of_volume of_log record { words = set (words_of n) 0 k; homes = homes_after homes m.1 a; views = set views id w } × took_volume client of_volume m n.volume_turn (w, carried_after m.1 a) in
      exchanged n.volume_turn 0 number F
      (λ free. let home = p.volume_home free in let know = fits.knows in
      let n' : Now E = record n { volume_turn = number; volume_seat = id; append_seat = id } in
      let w : View E = record v { volume = true; appends = true; list = n.list; taken = n.taken; points = n.points; durable = n.durable; stable = n.stable } in
      let positive : 0 < v.number = omega (arith, pass.1) in
      let mine : Fits client n' id w = record {
        knows = record { based = know.based; listed = prefix_refl n.list; pointed = prefix_refl n.points; durable = omega arith; stable = omega arith };
        volume = λ _. (refl, sym named, positive, refl, refl);
        appends = λ _. (refl, sym named, positive, omega (arith, pass.2), refl, refl);
        logs = λ yes. let l = fits.logs yes in (l.0, l.1, l.2, refl, l.4, l.5, l.6, l.7);
        passes = λ yes. (pass.0, pass.1, pass.2, (λ ne. absurd (ne (sym named))), pass.4, pass.5);
        deals = fits.deals;
      } in
      let others : (j : ℕ) (u : View E) → j ≢ id → Fits client n j u → Fits client n' j u = λ j u ne f. record {
        knows = f.knows;
        volume = λ yes. let t = f.volume yes in absurd (omega (arith, t.1, t.2));
        appends = λ yes. let t = f.appends yes in absurd (omega (arith, t.1, t.2));
        logs = f.logs;
        passes = λ yes. let t = f.passes yes in (t.0, t.1, t.2, (λ _. t.3 (λ e. omega (arith, t.1))), t.4, t.5);
        deals = f.deals;
      } in (
        w,
        takes 0 (Volume home.0),
        home.3,
        (
          n',
          refl,
          moves n n' homes (set homes 0 none) views id v w p at others mine p.ordered (length-set homes 0 none ∙ p.two)
              (λ e. absurd (omega arith))
              (λ e. let h = p.log_home e in (h.0, set_else homes 0 1 none (λ x. omega arith) ∙ h.1, h.2))
              (λ _. (w, set_here views id w (at_length views id v at), idle.0, idle.1, refl, sym named))
              (λ e. held_on has_log views n.log_seat n.log_turn id v w at refl refl refl refl (p.log_held e)),
        ),
        (
          (λ _. (
            home.0,
            refl,
            (home.1, home.2, subst (λ (b : List (List ℕ)). of_volume home.0 b n.list n.taken home.1 n.points home.2) (sym know.based) home.4, home.5, home.6),
            (
              refl,
              pass.3 (λ e. omega (arith, e)),
              know.pointed,
              know.durable,
              know.stable,
              (let o = p.ordered in (o.durable_taken, o.taken_listed, (let a = o.stable_pointed in let b = ap (λ (x : List ℕ). length x) o.log_pointed in omega arith))),
              (λ yes. let l = fits.logs yes in (
                sym l.3,
                sym l.4,
                sym l.5,
                subst (λ (x : List E). IsPrefix x n.list) (sym l.6) p.ordered.log_listed,
                l.7 ∙ p.ordered.log_pointed,
              )),
            ),
          )),
          (λ ne. absurd (ne free)),
        ),
      ))
      (λ taken. (v, keeps, tt, (n, refl, subst (λ (vs : List (View E)). Parts client of_volume of_log n homes vs) (sym (set_again views id v at)) p), ((λ e. absurd (taken e)), (λ _. refl)))))

  -- the volume's list gains an entry
  pub appends_one : (slots id : ℕ) (m : Seated V L E) (fits : E → Type 0) → m.0.live ≡ true → m.0.keeper ≡ false → m.0.appends ≡ true → length m.0.list + 1 < 18446744073709551616 → ((e : E) × fits e × (client e ≡ m.0.number))
      → Allows (IsKept client of_volume of_log) slots id m 2 (λ k. (k + 1) % 18446744073709551616) (λ _ m'. appended fits m m')
  appends_one slots id m fits alive plain may room said = let v = m.0 in let e = said.0 in allows slots id m 2 (λ k. (k + 1) % 18446744073709551616) (λ _ m'. appended fits m m') (inl plain) (λ n homes views p at small. let f = p.each id v at alive in let mine = f.appends may in let know = f.knows in let same = mine.4 in
      let list' : List E = n.list ++ e ∷ [] in
      let n' : Now E = record n { list = list' } in
      let w : View E = record v { list = v.list ++ e ∷ [] } in
      let longer : length v.list ≡ length n.list = ap length same in
      let count : (length n.list + 1) % 18446744073709551616 ≡ length list' = mod-eq_of_lt (omega arith) ∙ omega (arith, length-append n.list (e ∷ [])) in
      let hold = p.volume_held (λ z. omega (arith, mine.1, mine.2)) in
      let held = (p.each n.volume_seat hold.0 hold.1 hold.2).passes hold.3 in
      let far : (client e + n.gone < n.total) ⊎ (client e ≡ n.total) = ⊎_elim (λ (l : IsEarlier client n n.volume_seat hold.0). inl (omega (arith, l, said.2, mine.1, hold.5))) (λ (l : IsLast client n n.volume_seat hold.0). inr (omega (arith, l.0, said.2, mine.1, hold.5))) held.5 in
      let placed : (j : ℕ) (u u' : View E) → u'.number ≡ u.number → u'.back ≡ u.back → u'.returned ≡ u.returned → IsEarlier client n j u ⊎ IsLast client n j u → IsEarlier client n' j u' ⊎ IsLast client n' j u' = λ j u u' a b c. ⊎_elim
      (λ (l : IsEarlier client n j u). inl (omega (arith, a, l)))
      (λ (l : IsLast client n j u). inr (
        a ∙ l.0,
        b ∙ l.1,
        ap (λ (x : List (List E)). length x) c ∙ l.2,
        (
          l.3.0,
          l.3.1,
          subst (λ (x : List (List E)). AreOwn client l.3.0 x list') (sym c)
              (owns_more client e l.3.0 u.returned n.list (⊎_elim (λ (x : client e + n.gone < n.total). inl (omega (arith, x, l.3.1))) (λ (x : client e ≡ n.total). inr (omega (arith, x, l.2, l.3.1))) far) l.3.2),
        ),
      )) in
      let others : (j : ℕ) (u : View E) → j ≢ id → Fits client n j u → Fits client n' j u = λ j u ne g. record {
        knows = record { based = g.knows.based; listed = prefix_more u.list n.list e g.knows.listed; pointed = g.knows.pointed; durable = g.knows.durable; stable = g.knows.stable };
        volume = g.volume;
        appends = λ yes. let t = g.appends yes in absurd (ne (t.0 ∙ sym mine.0));
        logs = g.logs;
        passes = λ yes. let t = g.passes yes in (t.0, t.1, t.2, (λ apart. own_more client u.list n.list e u.number (λ x. apart (sym x ∙ said.2 ∙ mine.1)) (t.3 apart)), t.4, placed j u u refl refl refl t.5);
        deals = g.deals;
      } in
      let fit : Fits client n' id w = record {
        knows = record { based = know.based; listed = ([], append-nil (v.list ++ e ∷ []) ∙ ap (λ (l : List E). l ++ e ∷ []) same); pointed = know.pointed; durable = know.durable; stable = know.stable };
        volume = f.volume;
        appends = λ yes. (mine.0, mine.1, mine.2, mine.3, ap (λ (l : List E). l ++ e ∷ []) same, mine.5);
        logs = f.logs;
        passes = λ yes. let t = f.passes yes in (t.0, t.1, t.2, (λ apart. absurd (apart mine.1)), t.4, placed id v w refl refl refl t.5);
        deals = f.deals;
      } in
      let o = p.ordered in
      let ordered : IsOrdered client n' = record {
        log_listed = prefix_more n.log_list n.list e o.log_listed;
        log_pointed = o.log_pointed;
        durable_listed = o.durable_listed;
        durable_taken = o.durable_taken;
        taken_listed = (let t = o.taken_listed in omega (arith, length-append n.list (e ∷ [])));
        stable_pointed = o.stable_pointed;
        known = λ k far. lacks_more client e k (λ x. omega (arith, mine.3, said.2)) n.list (o.known k far);
        within = within_more client e n.total n.list (omega (arith, mine.2, said.2)) (⊎_elim (λ (x : client e + n.gone < n.total). omega (arith, x)) (λ (x : client e ≡ n.total). omega (arith, x)) far) o.within;
      } in (
        w,
        keeps,
        tt,
        (n', ap (λ (k : ℕ). n.volume_turn ∷ n.log_turn ∷ k ∷ n.durable ∷ length n.points ∷ n.stable ∷ []) count, steady n n' homes views id v w p at refl refl refl refl refl refl refl refl refl others fit ordered (λ free. absurd (omega (arith, mine.1, mine.2))) p.log_home),
        (refl, (e, said.1, refl)),
      ))

  -- the seat gives the volume turn
  pub gives_volume : (slots id : ℕ) (m : Seated V L E) (v : View E) (x : V) (more : List (ℕ × Held V L)) → m ≡ (v, carried 0 (Volume x) more) → v.live ≡ true → v.keeper ≡ false → v.main ≡ true → v.volume ≡ true → v.appends ≡ true → VolumeStands of_volume x v
      → Allows (IsKept client of_volume of_log) slots id m 0 (λ _. 0) (λ _ m'. gave_volume m m')
  gives_volume slots id m v x more is alive plain main volume appends stands = subst (λ (m : Seated V L E). Allows (IsKept client of_volume of_log) slots id m 0 (λ _. 0) (λ _ m'. gave_volume m m')) (sym is)
      (let m : Seated V L E = (v, carried 0 (Volume x) more) in allows slots id m 0 (λ _. 0) (λ _ m'. gave_volume m m') (inl plain) (λ n homes views p at small. let f = p.each id v at alive in let mine = f.volume volume in let list = f.appends appends in let know = f.knows in let pass = f.passes main in
      let n' : Now E = record n { volume_turn = 0 } in
      let w : View E = record v { volume = false; appends = false } in
      let others : (j : ℕ) (u : View E) → j ≢ id → Fits client n j u → Fits client n' j u = λ j u ne g. record {
        knows = g.knows;
        volume = λ yes. let t = g.volume yes in absurd (ne (t.0 ∙ sym mine.0));
        appends = λ yes. let t = g.appends yes in absurd (ne (t.0 ∙ sym list.0));
        logs = g.logs;
        passes = λ yes. let t = g.passes yes in (t.0, t.1, t.2, (λ _. t.3 (λ e. ne (t.0 ∙ ap n.owner (e ∙ sym mine.1) ∙ sym pass.0))), t.4, t.5);
        deals = g.deals;
      } in
      let fit : Fits client n' id w = record {
        knows = know;
        volume = λ yes. absurd (no_yes yes);
        appends = λ yes. absurd (no_yes yes);
        logs = f.logs;
        passes = λ yes. (pass.0, pass.1, pass.2, (λ _. ([], append-nil v.list ∙ list.4, tt)), pass.4, pass.5);
        deals = f.deals;
      } in (
        w,
        gives,
        tt,
        (
          n',
          refl,
          moves n n' homes (set homes 0 (some (Volume x))) views id v w p at others fit p.ordered (length-set homes 0 (some (Volume x)) ∙ p.two)
              (λ _. (
                x,
                stands.0,
                stands.1,
                set_here homes 0 (some (Volume x)) (omega (arith, p.two)),
                subst (λ (z : (List (List ℕ)) × (List E) × ℕ × (List ℕ)). of_volume x z.0 z.1 z.2 stands.0 z.3 stands.1) (λ k. (know.based k, list.4 k, mine.4 k, mine.3 k)) stands.2,
                omega (arith, stands.3, know.durable),
                omega (arith, stands.4, know.stable),
              ))
              (λ e. let h = p.log_home e in (h.0, set_else homes 0 1 (some (Volume x)) (λ y. omega arith) ∙ h.1, h.2))
              (λ ne. absurd (ne refl))
              (λ y. held_on has_log views n.log_seat n.log_turn id v w at refl refl refl refl (p.log_held y)),
        ),
        refl,
      )))
