-- What stands when all passes are back.
use Rattle.std.proofs.Common.{◌≡◌, ℕ, zero, suc, ◌+◌, ◌≤◌, List, [], ◌∷◌, ◌++◌, length, map, max, sym, refl, ap, ◌∙◌, subst, ⊎_elim, arith, append_assoc, le_trans, length-append}
use Rattle.std.proofs.Math.Nat.{le-max_left, le-max_right}
use mathlib.Core.Option.{some, some-injective, some-ne-none}
use lib.ListN.{get_elem?}
use Rattle.atomic_table.specs.Table.{Final, Seen}
use Rattle.atomic_table.proofs.Lists.{at_longer, at_last}
use Rattle.atomic_table.specs.Seated.{TableId}
use Rattle.jfs_turns.specs.Lists.{IsPrefix, HasOwn, AreOwn, AreOfClients}
use Rattle.jfs_turns.specs.Views.{fresh_pass, kept, took_back, IsFree}
use Rattle.jfs_turns.specs.Standing.{Standing}
use Rattle.jfs_turns.specs.Rule.{IsKept}
use Rattle.jfs_turns.specs.Passes.{ArePasses, AreNew, End, AtEnd, IsOfLast}
use Rattle.jfs_turns.specs.declared.turns.Pass.{Pass}
use Rattle.jfs_turns.proofs.Steps.{at_only, at_length}
use Rattle.jfs_turns.proofs.Seats.{all_back, at_end}
use Rattle.jfs_turns.specs.declared.view.View.{View}
use Rattle.jfs_turns.specs.declared.view.Held.{Held}
use Rattle.jfs_turns.specs.declared.view.Held.TheVariants.{Volume, Log, Nothing}

module _ {V L : Type 0} where
  in_volume : V → Held V L → V
  in_volume d (Volume x) = x
  in_volume d (Log y) = d
  in_volume d Nothing = d

  in_log : L → Held V L → L
  in_log d (Volume x) = d
  in_log d (Log y) = y
  in_log d Nothing = d

  pub same_volume : (a b : V) → ◌≡◌ {A = Held V L} (Volume a) (Volume b) → a ≡ b
  unfolding in_volume
  same_volume a b e = ap (in_volume a) e

  pub same_log : (a b : L) → ◌≡◌ {A = Held V L} (Log a) (Log b) → a ≡ b
  unfolding in_log
  same_log a b e = ap (in_log a) e

module _ {V L E : Type 0} where
  pub last_pass : (z : TableId) (total : ℕ) (ps qs : List (Pass V L E)) (p : Pass V L E) → ArePasses z total ps → ps ≡ qs ++ p ∷ [] → (p.seat.table_id ≡ z) × (p.client ≡ length qs + 1) × (p.seat.me.0.dealt ≡ total) × (p.seat.me.0.back ≡ 0) × (p.seat.me.0.returned ≡ [])
  last_pass z total ps qs p are e = are (length qs) p (ap (λ (l : List (Pass V L E)). get_elem? l (length qs)) e ∙ at_last qs p (length qs) refl)

  pub front_passes : (z : TableId) (total : ℕ) (ps qs : List (Pass V L E)) (p : Pass V L E) → ArePasses z total ps → ps ≡ qs ++ p ∷ [] → ArePasses z total qs
  front_passes z total ps qs p are e i q at = are i q (ap (λ (l : List (Pass V L E)). get_elem? l i) e ∙ at_longer qs (p ∷ []) i q at)

  pub more_passes : (z : TableId) (total : ℕ) (base : List (List ℕ)) (ps : List (Pass V L E)) (p : Pass V L E) → ArePasses z total ps → AreNew base ps → p.seat.table_id ≡ z → p.client ≡ length ps + 1 → p.calls_left ≡ 65536 → p.seat.me.0 ≡ fresh_pass (kept base total (length ps))
      → ArePasses z total (ps ++ p ∷ []) × AreNew base (ps ++ p ∷ [])
  more_passes z total base ps p are new table client left view = (
    (λ i q at. ⊎_elim (are i q) (λ (t : (i ≡ length ps) × (p ≡ q)). subst (λ (y : ℕ × Pass V L E). (y.1.seat.table_id ≡ z) × (y.1.client ≡ y.0 + 1) × (y.1.seat.me.0.dealt ≡ total) × (y.1.seat.me.0.back ≡ 0) × (y.1.seat.me.0.returned ≡ [])) (λ k. (sym t.0 k, t.1 k)) (table, client, ap (λ (x : View E). x.dealt) view, ap (λ (x : View E). x.back) view, ap (λ (x : View E). x.returned) view)) (at_end ps p q i at)),
    (λ i q at. ⊎_elim (new i q) (λ (t : (i ≡ length ps) × (p ≡ q)). subst (λ (y : Pass V L E). (y.calls_left ≡ 65536) × (y.seat.me.0.base ≡ base) × (y.seat.me.0.list ≡ []) × (y.seat.me.0.points ≡ [])) t.1
        (left, ap (λ (x : View E). x.base) view, ap (λ (x : View E). x.list) view, ap (λ (x : View E). x.points) view)) (at_end ps p q i at)),
  )

  -- what the last pass's view has of the passes that are back: the passes at first are those still out, and then these and the last
  pub record AreBack (first now : List (Pass V L E)) (v : View E) : Type 0 where
    pub back : List (Pass V L E)
    pub last : Pass V L E
    pub whole : first ≡ now ++ (back ++ last ∷ [])
    pub returned : v.returned ≡ map (λ (p : Pass V L E). p.seat.me.0.list) back
    pub base : v.base ≡ last.seat.me.0.base
    pub list : v.list ≡ last.seat.me.0.list
    pub points : v.points ≡ last.seat.me.0.points
    pub bounds : (i : ℕ) (p : Pass V L E) → get_elem? (back ++ last ∷ []) i ≡ some p → (p.seat.me.0.durable ≤ v.durable) × (p.seat.me.0.stable ≤ v.stable)

  pub none_back : (first now : List (Pass V L E)) (p : Pass V L E) → first ≡ now ++ p ∷ [] → p.seat.me.0.returned ≡ [] → AreBack first now p.seat.me.0
  none_back first now p is none = record { back = []; last = p; whole = is; returned = none; base = refl; list = refl; points = refl; bounds = λ i q at. subst (λ (x : Pass V L E). (x.seat.me.0.durable ≤ p.seat.me.0.durable) × (x.seat.me.0.stable ≤ p.seat.me.0.stable)) (at_only p q i at).1 (omega arith, omega arith) }

  pub one_back : (first now rest : List (Pass V L E)) (v w : View E) (p : Pass V L E) → AreBack first now v → now ≡ rest ++ p ∷ [] → w ≡ took_back v p.seat.me.0 → AreBack first rest w
  one_back first now rest v w p b is next = subst (AreBack first rest) (sym next) record {
    back = p ∷ b.back;
    last = b.last;
    whole = b.whole ∙ (ap (λ (l : List (Pass V L E)). l ++ (b.back ++ b.last ∷ [])) is ∙ append_assoc rest (p ∷ []) (b.back ++ b.last ∷ []));
    returned = ap (λ (l : List (List E)). p.seat.me.0.list ∷ l) b.returned;
    base = b.base;
    list = b.list;
    points = b.points;
    bounds = λ i q at. bound i q at;
  }
    where
      bound : (i : ℕ) (q : Pass V L E) → get_elem? (p ∷ (b.back ++ b.last ∷ [])) i ≡ some q → (q.seat.me.0.durable ≤ max v.durable p.seat.me.0.durable) × (q.seat.me.0.stable ≤ max v.stable p.seat.me.0.stable)
      bound zero q at = subst (λ (x : Pass V L E). (x.seat.me.0.durable ≤ max v.durable p.seat.me.0.durable) × (x.seat.me.0.stable ≤ max v.stable p.seat.me.0.stable)) (some-injective p q at) (le-max_right v.durable p.seat.me.0.durable, le-max_right v.stable p.seat.me.0.stable)
      bound (suc i) q at = let h = b.bounds i q at in (le_trans h.0 (le-max_left v.durable p.seat.me.0.durable), le_trans h.1 (le-max_left v.stable p.seat.me.0.stable))

  -- each of the lists with which the passes came back
  own_at : (client : E → ℕ) (ys : List E) (k : ℕ) (ps : List (Pass V L E)) (i : ℕ) (p : Pass V L E) → AreOwn client k (map (λ (q : Pass V L E). q.seat.me.0.list) ps) ys → get_elem? ps i ≡ some p → HasOwn client (k + i) p.seat.me.0.list ys
  own_at client ys k [] i p own at = absurd (some-ne-none p (sym at))
  own_at client ys k (q ∷ ps) zero p own at = subst (λ (x : ℕ × Pass V L E). HasOwn client x.0 x.1.seat.me.0.list ys) (λ j. (plus k j, some-injective q p at j)) own.0
    where
      plus : (k : ℕ) → k ≡ k + zero
      plus k = omega arith
  own_at client ys k (q ∷ ps) (suc i) p own at = subst (λ (x : ℕ). HasOwn client x p.seat.me.0.list ys) (omega arith) (own_at client ys (suc k) ps i p own.1 at)

  pub ends : (client : E → ℕ) (of_volume : Standing V E) (of_log : Standing L E) (id : ℕ) (v : View E) (ws : List ℕ) (xs : List (Held V L)) (z : TableId) (ps : List (Pass V L E)) → Final (Seen (IsKept client of_volume of_log) id v) ws xs → IsFree v → v.number ≡ v.dealt → v.back + 1 ≡ v.dealt → v.dealt ≡ length ps
      → ArePasses z (length ps) ps → AreBack ps [] v
      → (x : V) × (y : L) × (get_elem? xs 0 ≡ some (Volume x)) × (get_elem? xs 1 ≡ some (Log y)) × AtEnd client of_volume of_log ps x y
  ends client of_volume of_log id v ws xs z ps f is last all many are back = let b = all_back client of_volume of_log id v f.0 f.1.0 f.1.1 is last all in let n = b.0 in let lo = b.1 in let hi = b.2 in let o = b.3 in let know = b.4 in
      let end : End E = record { base = n.base; list = n.list; log_list = n.log_list; points = n.points; log_points = n.log_points; taken = n.taken; durable = n.durable; stable = n.stable; told = lo.1; known = lo.2 } in
      let long : length ps ≡ length back.back + 1 = ap (λ (l : List (Pass V L E)). length l) back.whole ∙ length-append back.back (back.last ∷ []) in
      let own : AreOwn client 1 (map (λ (q : Pass V L E). q.seat.me.0.list) back.back) n.list = subst (λ (ls : List (List E)). AreOwn client 1 ls n.list) back.returned b.6 in
      let all_passes : (i : ℕ) (p : Pass V L E) → get_elem? ps i ≡ some p → HasOwn client p.client p.seat.me.0.list n.list × (suc i ≡ length ps → IsOfLast client end p) = λ i p at. let named = (are i p at).1 in ⊎_elim
      (λ here. (subst (λ (k : ℕ). HasOwn client k p.seat.me.0.list n.list) (omega (arith, named)) (own_at client n.list 1 back.back i p own here), (λ e. absurd (omega (arith, at_length back.back i p here, long, e)))))
      (λ (t : (i ≡ length back.back) × (back.last ≡ p)). let same : v.number ≡ p.client = omega (arith, named, t.0, last, many, long) in (
        subst (λ (q : ℕ × Pass V L E). HasOwn client q.0 q.1.seat.me.0.list n.list) (λ k. (same k, t.1 k)) (subst (λ (l : List E). HasOwn client v.number l n.list) back.list b.5),
        (λ _. subst (λ (q : Pass V L E). IsOfLast client end q) t.1 (sym back.base ∙ know.based, subst (λ (l : List ℕ). IsPrefix l n.points) back.points know.pointed)),
      ))
      (at_end back.back back.last p i (ap (λ (l : List (Pass V L E)). get_elem? l i) (sym back.whole) ∙ at)) in (
        lo.0,
        hi.0,
        f.4 0 (Volume lo.0) lo.3,
        f.4 1 (Log hi.0) hi.1,
        (end, lo.4, hi.2, (o.log_listed, o.log_pointed, lo.5, o.durable_taken, o.durable_listed, o.taken_listed, lo.6, o.stable_pointed), (λ i p at. let g = all_passes i p at in let bound = back.bounds i p (ap (λ (l : List (Pass V L E)). get_elem? l i) (sym back.whole) ∙ at) in (g.0, le_trans bound.0 know.durable, le_trans bound.1 know.stable)), (λ i p at end_here. (all_passes i p at).1 end_here), subst (λ (most : ℕ). AreOfClients client most n.list) (sym b.7 ∙ (last ∙ many)) o.within),
      )
