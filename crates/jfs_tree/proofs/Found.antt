-- Where an entry is found.
use Rattle.std.proofs.Common.{◌≡◌, refl, sym, ap, ◌∙◌, subst, ℕ, zero, suc, Bool, true, false, List, [], ◌∷◌, ◌++◌, if◌then◌else◌, Option, Some, None}
use Rattle.std.specs.List.{flat_map}
use Rattle.std.proofs.lemmas.Bool.{true≢false}
use Rattle.jfs_tree.specs.Walk.{Child, Node, Leaf, Page, Key, Row, Fault, Marks, Scale, Rises, IsOrder, rows_of, under, walk}
use Rattle.jfs_tree.specs.Edit.{own, IsPast, found_in, IsPoint}
use Rattle.jfs_tree.proofs.Rising.{rises_cut}
use Rattle.jfs_tree.proofs.Between.{rows_three}
use Rattle.jfs_tree.proofs.Keys.{rises_up, child_from}
use Rattle.jfs_tree.proofs.Steps.{inner_walk}
use Rattle.jfs_tree.proofs.Leaves.{rows_leaf, leaf_fits, cons_rows}
use Rattle.jfs_tree.proofs.Growing.{Route, own_key}

when_true : {A : Type 0} (b : Bool) (a c : A) → b ≡ true → (if b then a else c) ≡ a
when_true true a c h = refl
when_true false a c h = absurd (true≢false (sym h))

when_false : {A : Type 0} (b : Bool) (a c : A) → (b ≡ true → ⊥) → (if b then a else c) ≡ c
when_false true a c h = absurd (h refl)
when_false false a c h = refl

-- what ends before it is passed over
skip_low : {P E : Type 0} (s : Scale P E) → IsOrder s → (x : E) (low m : P) (a : Marks P E) (rest : List E) → Rises s low a (Some m) → s.le m (s.from x) ≡ true → found_in s x (rows_of a ++ rest) ≡ found_in s x rest
skip_low s o x low m [] rest r h = refl
skip_low s o x low m (Page n ∷ ms) rest r h = skip_low s o x low m ms rest r h
skip_low s o x low m (Key n k ∷ ms) rest r h = skip_low s o x k m ms rest r.1 h
skip_low s o x low m (Row n e ∷ ms) rest r h =
    when_true (s.le (s.to e) (s.from x)) _ _ (o.trans_le (s.to e) m (s.from x) (rises_up s o (s.to e) ms m r.1) h) ∙ skip_low s o x (s.to e) m ms rest r.1 h
skip_low s o x low m (Fault n f ∷ ms) rest r h = absurd r

-- nothing is found behind it
none_high : {P E : Type 0} (s : Scale P E) → IsOrder s → (x : E) → IsPoint s x → (low : P) (b : Marks P E) (high : Option P) → s.le (s.to x) low ≡ true → Rises s low b high → found_in s x (rows_of b) ≡ None
none_high s o x p low [] high h r = refl
none_high s o x p low (Page n ∷ ms) high h r = none_high s o x p low ms high h r
none_high s o x p low (Key n k ∷ ms) high h r = none_high s o x p k ms high (o.trans_le (s.to x) low k h r.0) r.1
none_high s o x p low (Row n e ∷ ms) high h r =
    let a = o.trans_le (s.to x) low (s.from e) h r.0 in
    when_false (s.le (s.to e) (s.from x)) _ _ (λ t. true≢false (sym (o.trans_le (s.to x) (s.to e) (s.from x) (o.trans_le (s.to x) (s.from e) (s.to e) a (o.span_le e)) t) ∙ p.wide))
    ∙ when_true (s.le (s.to x) (s.from e)) None (Some e) a
none_high s o x p low (Fault n f ∷ ms) high h r = absurd r

drop_high : {P E : Type 0} (s : Scale P E) (x : E) (t rest : List E) → found_in s x rest ≡ None → found_in s x (t ++ rest) ≡ found_in s x t
drop_high s x [] rest h = h
drop_high s x (e ∷ t) rest h = ap (λ r. if s.le (s.to e) (s.from x) then r else (if s.le (s.to x) (s.from e) then None else Some e)) (drop_high s x t rest h)

behind_none : {P E : Type 0} (s : Scale P E) → IsOrder s → (x : E) → IsPoint s x → (nodes : ℕ → Node P E) (levels : ℕ) (back : List (Child P)) (low : P) (high : Option P)
    → Rises s low (flat_map (walk s nodes levels) back) high → IsPast s x back → found_in s x (rows_of (flat_map (walk s nodes levels) back)) ≡ None
unfolding walk
behind_none s o x p nodes levels [] low high r past = refl
behind_none s o x p nodes zero (b ∷ bs) low high r past = absurd r
behind_none s o x p nodes (suc levels) (b ∷ bs) low high r past = none_high s o x p b.key (flat_map (walk s nodes (suc levels)) (b ∷ bs)) high (p.next b.key past) (o.refl_le b.key, r.1)

-- What is found in a page is found in the child to which it leads.
pub find_down : {P E : Type 0} (s : Scale P E) → IsOrder s → (x : E) → IsPoint s x → (nodes : ℕ → Node P E) (lower : ℕ) (c : Child P) (child : ℕ) (front : List (Child P)) (t : Child P) (back : List (Child P)) (low : P) (high : Option P)
    → Route s x (nodes c.page) child front t back → s.le c.key (s.from x) ≡ true → Rises s low (walk s nodes (suc (suc lower)) c) high
    → (m : P) × (top : P) × Rises s m (walk s nodes (suc lower) (own c.key front t)) (Some top) × (s.le (own c.key front t).key (s.from x) ≡ true)
    × (found_in s x (rows_of (walk s nodes (suc (suc lower)) c)) ≡ found_in s x (rows_of (walk s nodes (suc lower) (own c.key front t))))
find_down s o x p nodes lower c child front t back low high route above r =
    let A = flat_map (walk s nodes (suc lower)) (under c.key front) in
    let T = walk s nodes (suc lower) (own c.key front t) in
    let B = flat_map (walk s nodes (suc lower)) back in
    let was = inner_walk s nodes lower c front t back route.is in
    let all = subst (λ ms. Rises s low ms high) was r in
    let u = rises_cut s o c.key A (T ++ B) high all.1 in
    let v = rises_cut s o u.0 T B high u.2 in
    let k = own_key s x c.key front t above route.above in
    let low_is = o.trans_le u.0 (own c.key front t).key (s.from x) (child_from s nodes (suc lower) (own c.key front t) u.0 high B u.2) k in (
      u.0,
      v.0,
      v.1,
      k,
      ap (λ ms. found_in s x (rows_of ms)) was ∙ ap (found_in s x) (rows_three A T B)
          ∙ skip_low s o x c.key u.0 A (rows_of T ++ rows_of B) u.1 low_is
          ∙ drop_high s x (rows_of T) (rows_of B) (behind_none s o x p nodes (suc lower) back v.0 high v.2 route.past),
    )

-- the entries of a leaf below the root
pub leaf_rows : {P E : Type 0} (s : Scale P E) (nodes : ℕ → Node P E) (c : Child P) (es : List E) (low : P) (high : Option P) → nodes c.page ≡ Leaf es → Rises s low (walk s nodes (suc zero) c) high → rows_of (walk s nodes (suc zero) c) ≡ es
leaf_rows {P} s nodes c es low high is r = ap rows_of (cons_rows s nodes c es (leaf_fits s nodes c es low high is r) is) ∙ rows_leaf P c.page es
