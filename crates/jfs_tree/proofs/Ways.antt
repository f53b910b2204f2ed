-- What is found on the way of an entry is what the list has.
use Rattle.std.proofs.Common.{◌≡◌, ◌≤◌, inl, inr, refl, sym, ap, ◌∙◌, subst, ℕ, zero, suc, [], ◌∷◌, Option, Some, None, true, arith}
use Rattle.jfs_tree.specs.Walk.{Child, Node, Leaf, Inner, Broken, Scale, Rises, IsOrder, rows_of, placed, body, walk}
use Rattle.jfs_tree.specs.Spells.{with_root, top}
use Rattle.jfs_tree.specs.Edit.{IsPoint, found_in, own}
use Rattle.jfs_tree.specs.Path.{found_below, found_on_way}
use Rattle.jfs_tree.specs.Laws.{IsFoundOnWay}
use Rattle.jfs_tree.proofs.Finding.{leaf_level, inner_level, broken_level}
use Rattle.jfs_tree.proofs.Found.{find_down, leaf_rows}
use Rattle.jfs_tree.proofs.Growing.{Route, own_page}
use Rattle.jfs_tree.proofs.Path.{looks, leads_among}
use Rattle.jfs_tree.proofs.RootCalls.{leads_more, leaf_spells, names_root, part_off}
use Rattle.jfs_tree.proofs.Spelled.{stands}

no_children : {P E : Type 0} (s : Scale P E) (nodes : ℕ → Node P E) (levels : ℕ) (c : Child P) (low : P) (high : Option P) → nodes c.page ≡ Inner [] → Rises s low (walk s nodes levels c) high → ⊥
unfolding walk
no_children s nodes zero c low high is r = r
no_children s nodes (suc zero) c low high is r = subst (λ node. Rises s c.key (body (walk s nodes zero) c (placed s zero c.key node)) high) is r.1
no_children s nodes (suc (suc below)) c low high is r = subst (λ node. Rises s c.key (body (walk s nodes (suc below)) c (placed s (suc below) c.key node)) high) is r.1

no_levels : {P E : Type 0} (s : Scale P E) (nodes : ℕ → Node P E) (levels : ℕ) (c : Child P) (low : P) (high : Option P) → levels ≤ 0 → Rises s low (walk s nodes levels c) high → ⊥
unfolding walk
no_levels s nodes zero c low high none r = r
no_levels s nodes (suc below) c low high none r = omega (arith, none)

-- below a page
below_finds : {P E : Type 0} (s : Scale P E) → IsOrder s → (x : E) → IsPoint s x → (nodes : ℕ → Node P E) (most levels : ℕ) (c : Child P) (low : P) (high : Option P)
    → levels ≤ most → s.le c.key (s.from x) ≡ true → Rises s low (walk s nodes levels c) high → found_below s nodes x most c.page ≡ found_in s x (rows_of (walk s nodes levels c))
below_finds s o x p nodes zero levels c low high m above r = absurd (no_levels s nodes levels c low high m r)
below_finds {P} {E} s o x p nodes (suc most) levels c low high m above r = by (below_finds s o x p nodes most) (nodes c.page) refl
  where
    by : ((levels : ℕ) (c : Child P) (low : P) (high : Option P) → levels ≤ most → s.le c.key (s.from x) ≡ true → Rises s low (walk s nodes levels c) high
        → found_below s nodes x most c.page ≡ found_in s x (rows_of (walk s nodes levels c)))
        → (node : Node P E) → nodes c.page ≡ node → found_below s nodes x (suc most) c.page ≡ found_in s x (rows_of (walk s nodes levels c))
    by deeper (Leaf es) is =
        let one = leaf_level s nodes levels c es low high is r in
        looks s nodes x (suc most) most c.page (Leaf es) refl (sym is)
        ∙ ap (found_in s x) (sym (leaf_rows s nodes c es low high is (subst (λ l. Rises s low (walk s nodes l c) high) one r)))
        ∙ ap (λ l. found_in s x (rows_of (walk s nodes l c))) (sym one)
    by deeper (Inner []) is = absurd (no_children s nodes levels c low high is r)
    by deeper (Inner (d ∷ ds)) is =
        let l = inner_level s nodes levels c (d ∷ ds) low high is r in
        let k = leads_among s x d ds in
        let route : Route s x (nodes c.page) k.1.page k.0 k.1 k.2 = record { is = is ∙ ap (λ cs. Inner cs) k.3; to = refl; past = k.5; above = k.6 } in
        let t = find_down s o x p nodes l.0 c k.1.page k.0 k.1 k.2 low high route above (subst (λ i. Rises s low (walk s nodes i c) high) l.1 r) in
        looks s nodes x (suc most) most c.page (Inner (d ∷ ds)) refl (sym is)
        ∙ ap (found_below s nodes x most) (sym k.4 ∙ sym (own_page c.key k.0 k.1))
        ∙ deeper (suc l.0) (own c.key k.0 k.1) t.0 (Some t.1) (let i = l.1 in omega (arith, m, i)) t.3 t.2
        ∙ sym t.4 ∙ ap (λ i. found_in s x (rows_of (walk s nodes i c))) (sym l.1)
    by deeper (Broken rule) is = absurd (broken_level s nodes levels c rule low high is r)

-- and from the root on
pub on_way : {P E : Type 0} (s : Scale P E) → IsOrder s → IsFoundOnWay s
on_way {P} {E} s o x p pages root es spelled = by root refl
  where
    by : (node : Node P E) → root ≡ node → found_on_way s pages x root ≡ found_in s x es
    by (Leaf rest) is = ap (found_on_way s pages x) is ∙ ap (found_in s x) (leaf_spells s pages root rest es is spelled)
    by (Inner []) is = elim (stands s pages root es spelled) [
      | inl e ↦ absurd (leads_more P E [] (sym is ∙ e.0))
      | inr st ↦ absurd (no_children s (with_root root pages) st.levels (top s) s.least None is st.rises)
    ]
    by (Inner (d ∷ ds)) is = elim (stands s pages root es spelled) [
      | inl e ↦ absurd (leads_more P E (d ∷ ds) (sym is ∙ e.0))
      | inr st ↦
          let l = inner_level s (with_root root pages) st.levels (top s) (d ∷ ds) s.least None is st.rises in
          let r = subst (λ i. Rises s s.least (walk s (with_root root pages) i (top s)) None) l.1 st.rises in
          let k = leads_among s x d ds in
          let all = is ∙ ap (λ cs. Inner cs) k.3 in
          let route : Route s x root k.1.page k.0 k.1 k.2 = record { is = all; to = refl; past = k.5; above = k.6 } in
          let t = find_down s o x p (with_root root pages) l.0 (top s) k.1.page k.0 k.1 k.2 s.least None route (o.least_le (s.from x)) r in
          let off = part_off s o root pages l.0 k.0 k.1 k.2 all r in
          ap (found_on_way s pages x) is
          ∙ ap (found_below s pages x 7) (sym k.4 ∙ sym (own_page s.least k.0 k.1))
          ∙ below_finds s o x p pages 7 (suc l.0) (own s.least k.0 k.1) t.0 (Some t.1) (let m = st.most in let i = l.1 in omega (arith, m, i)) t.3
          (subst (λ ms. Rises s t.0 ms (Some t.1)) (sym off) t.2)
          ∙ ap (λ ms. found_in s x (rows_of ms)) off ∙ sym t.4
          ∙ ap (found_in s x) (ap (λ i. rows_of (walk s (with_root root pages) i (top s))) (sym l.1) ∙ st.rows)
    ]
    by (Broken rule) is = absurd ((names_root s pages root rule is).1 es spelled)
