-- What the rule is for.
use Rattle.std.proofs.Common.{◌≡◌, ℕ, List, [], ◌∷◌, ◌++◌, length, get_or, ap, sym, refl, subst, ◌∙◌, arith, cond, eqb, ne_eqb, append-nil}
use Rattle.atomic_table.specs.Table.{State}
use Rattle.jfs_turns.specs.Lists.{IsPrefix, Lacks, HasOwn, entries_of}
use Rattle.jfs_turns.specs.Views.{Seated}
use Rattle.jfs_turns.specs.Standing.{Standing}
use Rattle.jfs_turns.specs.Told.{Learned, LearnedLog, appended, marked_points}
use Rattle.std.proofs.Math.Nat.{le-max_left}
use Rattle.jfs_turns.proofs.Steps.{prefix_refl}
use Rattle.jfs_turns.specs.Rule.{Ruled}
use Rattle.jfs_turns.specs.Laws.{Grows, KnowledgeGrows, SeenIsPrefix, SeesItsOwn, AtMostOne, DurableIsTheLogSides, BothAgree}
use Rattle.jfs_turns.specs.declared.view.View.{View}
use Rattle.jfs_turns.specs.declared.view.Held.{Held}

module _ {E : Type 0} (client : E → ℕ) where
  none_of : (k : ℕ) (es : List E) → Lacks client k es → entries_of client k es ≡ []
  none_of k [] l = refl
  none_of k (e ∷ es) l = ap (λ b. cond b (e ∷ entries_of client k es) (entries_of client k es)) (ne_eqb (client e) k l.0) ∙ none_of k es l.1

  own_goes_on : (k : ℕ) (xs more : List E) → Lacks client k more → entries_of client k (xs ++ more) ≡ entries_of client k xs
  own_goes_on k [] more l = none_of k more l
  own_goes_on k (x ∷ xs) more l = ap (λ (es : List E). cond (eqb (client x) k) (x ∷ es) es) (own_goes_on k xs more l)

  same_own : (k : ℕ) (xs ys : List E) → HasOwn client k xs ys → entries_of client k ys ≡ entries_of client k xs
  same_own k xs ys h = ap (entries_of client k) (sym h.1) ∙ own_goes_on k xs h.0 h.2

module _ {V L E : Type 0} (client : E → ℕ) where
  stays : (m : Seated V L E) → Grows m m
  stays m = (prefix_refl m.0.list, prefix_refl m.0.points, omega arith, omega arith, refl)

  learned_grows : (m m' : Seated V L E) → Learned client m m' → Grows m m'
  learned_grows m m' l = ((l.1.0, l.1.1), l.2, l.3, l.4, ap (λ (v : View E). v.base) l.0)

  learned_log_grows : (m m' : Seated V L E) → LearnedLog m m' → Grows m m'
  learned_log_grows m m' l = let e = l.0 in (
    ([], append-nil m.0.list ∙ sym (ap (λ (v : View E). v.list) e)),
    ([], append-nil m.0.points ∙ sym (ap (λ (v : View E). v.points) e)),
    omega (arith, l.1, ap (λ (v : View E). v.durable) e),
    omega (arith, l.2, ap (λ (v : View E). v.stable) e),
    ap (λ (v : View E). v.base) e,
  )

  appended_grows : (m m' : Seated V L E) → appended (λ e. Unit {0}) m m' → Grows m m'
  appended_grows m m' a = let e = a.1.2 in (
    (a.1.0 ∷ [], sym (ap (λ (v : View E). v.list) e)),
    ([], append-nil m.0.points ∙ sym (ap (λ (v : View E). v.points) e)),
    omega (arith, ap (λ (v : View E). v.durable) e),
    omega (arith, ap (λ (v : View E). v.stable) e),
    ap (λ (v : View E). v.base) e,
  )

  points_grow : (k : ℕ) (m m' : Seated V L E) → marked_points (λ ps. Unit {0}) k m m' → Grows m m'
  points_grow k m m' a = let t = a.1 in let e = t.4 in (
    ([], append-nil m.0.list ∙ sym (ap (λ (v : View E). v.list) e)),
    (t.2.0, t.2.1 ∙ sym (ap (λ (v : View E). v.points) e)),
    omega (arith, ap (λ (v : View E). v.durable) e),
    omega (arith, ap (λ (v : View E). v.stable) e),
    ap (λ (v : View E). v.base) e,
  )

  pub knowledge_grows : KnowledgeGrows V L client
  knowledge_grows m m' = let s = stays m in (
    learned_grows m m',
    learned_log_grows m m',
    (λ e. subst (Grows m) (sym e) s),
    (λ e. subst (Grows m) (sym e) s),
    (λ e. subst (Grows m) (sym e) s),
    appended_grows m m',
    (λ r e. subst (Grows m) (sym e.0) (s.0, s.1, e.1, s.3, refl)),
    (λ k e. subst (Grows m) (sym e) (s.0, s.1, le-max_left m.0.durable k, s.3, refl)),
    (λ k e. points_grow k m m' e),
    (λ k e. subst (Grows m) (sym e) (s.0, s.1, s.2, le-max_left m.0.stable k, refl)),
  )

module _ {V L E : Type 0} (client : E → ℕ) (of_volume : Standing V E) (of_log : Standing L E) where
  pub seen_is_prefix : SeenIsPrefix client of_volume of_log
  seen_is_prefix s r = (r.0, r.1, (λ j v h. let k = (r.2.each j v h.0 h.1).knows in (k.listed, k.pointed, k.durable, k.stable, k.based)))

  pub sees_its_own : SeesItsOwn client of_volume of_log
  sees_its_own s r = (r.0, r.1, (λ j v h main away. same_own client v.number v.list r.0.list (((r.2.each j v h.0 h.1).passes main).3 away)))

  word : (s : State (Held V L) (View E)) (r : Ruled client of_volume of_log s) (i : ℕ) → get_or s.words i 0 ≡ get_or (Rattle.jfs_turns.specs.Rule.words_of r.0) i 0
  word s r i = ap (λ (l : List ℕ). get_or l i 0) r.1

  pub at_most_one : AtMostOne client of_volume of_log
  at_most_one s i j v w r hv hw = let f = r.2.each i v hv.0 hv.1 in let g = r.2.each j w hw.0 hw.1 in (
    (λ yes. let a = f.volume yes in (a.1 ∙ sym (word s r 0), (λ yes'. a.0 ∙ sym (g.volume yes').0))),
    (λ yes. let a = f.appends yes in (a.1 ∙ sym (word s r 0), (λ yes'. a.0 ∙ sym (g.appends yes').0))),
    (λ yes. let a = f.logs yes in (a.1 ∙ sym (word s r 1), (λ yes'. a.0 ∙ sym (g.logs yes').0))),
  )

  pub durable_is_the_log_sides : DurableIsTheLogSides client of_volume of_log
  durable_is_the_log_sides s j v r h = let f = r.2.each j v h.0 h.1 in let o = r.2.ordered in let three = word s r 3 in (
    omega (arith, f.knows.durable, three),
    (λ yes. let l = f.logs yes in (
      l.4 ∙ sym three,
      omega (arith, l.3, l.4, o.durable_taken),
      omega (arith, l.4, ap (λ (x : List E). length x) l.6, o.durable_listed),
      l.5 ∙ sym (word s r 5),
      omega (arith, l.5, ap (λ (x : List ℕ). length x) l.7, o.stable_pointed),
    )),
  )

  pub both_agree : BothAgree client of_volume of_log
  both_agree s i j v w r hv hw may volume log = let f = r.2.each i v hv.0 hv.1 in let g = r.2.each j w hw.0 hw.1 in let a = f.appends may in let b = g.volume volume in let l = g.logs log in let o = r.2.ordered in (
    ap (λ (x : List E). length x) a.4 ∙ sym (word s r 2),
    ap (λ (x : List ℕ). length x) b.3 ∙ sym (word s r 4),
    a.5 ∙ sym b.4,
    omega (arith, b.4, ap (λ (x : List E). length x) a.4, o.taken_listed),
    subst {A = List E × List E} (λ z. IsPrefix z.0 z.1) (λ k. (sym l.6 k, sym a.4 k)) o.log_listed,
    l.7 ∙ o.log_pointed ∙ sym b.3,
  )
