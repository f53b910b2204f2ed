-- How deep a tree is for a name depends on its own pages alone.
use Rattle.std.proofs.Common.{◌≡◌, ◌⊎◌, ◌<◌, ◌==◌, ◌&&◌, refl, sym, ap, ap₂, ◌∙◌, subst, ℕ, zero, suc, Bool, if◌then◌else◌, List, [], ◌∷◌, inl, inr, Option, Some, None, Ok, arith}
use Rattle.std.specs.List.{list_all}
use Rattle.std.proofs.lemmas.Bool.{cases_eq, eq-eqb, ne_eqb}
use Rattle.jfs_shown.specs.way.specs.page_tree.specs.Walk.{Child, Node, Leaf, Inner, Broken, Marks, Scale, Rises, IsOrder, times, placed, body, walk}
use Rattle.jfs_shown.specs.way.specs.page_tree.specs.Spells.{no_page, with_root, levels_of, top, tree_of, spells}
use Rattle.jfs_shown.specs.way.specs.page_tree.specs.Path.{way_of, path_of}
use Rattle.jfs_shown.specs.way.specs.page_tree.specs.Adds.{read_as}
use Rattle.jfs_shown.specs.way.specs.page_tree.specs.Edit.{own}
use Rattle.jfs_shown.specs.way.specs.page_tree.proofs.Adding.{inner_part}
use Rattle.jfs_shown.specs.way.specs.page_tree.proofs.Finding.{inner_level}
use Rattle.jfs_shown.specs.way.specs.page_tree.proofs.Frame.{Agree, frame, reads_itself}
use Rattle.jfs_shown.specs.way.specs.page_tree.proofs.Growing.{own_page}
use Rattle.jfs_shown.specs.way.specs.page_tree.proofs.Once.{each_once}
use Rattle.jfs_shown.specs.way.specs.page_tree.proofs.Path.{path_zero, path_leaf, path_next, child_among}
use Rattle.jfs_shown.specs.way.specs.page_tree.proofs.RootCalls.{part_off}
use Rattle.jfs_shown.specs.way.specs.page_tree.proofs.Rooms.{leaf_levels}
use Rattle.jfs_shown.specs.way.specs.page_tree.proofs.Spelled.{Stands, stands, levels_found}
use Rattle.jfs_shown.specs.way.specs.page_tree.proofs.Steps.{times_inner}

-- a page is read by its own walk
reads : {P E : Type 0} (s : Scale P E) (nodes : ℕ → Node P E) (levels : ℕ) (c : Child P) (low : P) (high : Option P) → Rises s low (walk s nodes levels c) high → 0 < times c.page (walk s nodes levels c)
unfolding walk
reads s nodes zero c low high r = absurd r
reads s nodes (suc below) c low high r = reads_itself c.page (body (walk s nodes below) c (placed s below c.key (nodes c.page)))

-- the root is read once
at_top : (b : ℕ) → b ≡ no_page → (if no_page == b then suc zero else zero) ≡ suc zero
at_top b e = ap (λ (x : Bool). if x then suc zero else zero) (eq-eqb no_page b (sym e))

module _ {P E : Type 0} (s : Scale P E) (o : IsOrder s) (node : List ℕ → Node P E) (old new : ℕ → List ℕ) (test : List ℕ → Bool) (at : P) where
  abbrev was : ℕ → Node P E
  was = read_as node old

  abbrev now : ℕ → Node P E
  now = read_as node new

  abbrev passes : (ℕ → List ℕ) → List ℕ → Bool
  passes pages path = list_all (λ n. test (pages n)) path

  -- the pages of a walk stay
  abbrev Stay : Marks P E → Type 0
  Stay ms = (b : ℕ) → 0 < times b ms → new b ≡ old b

  -- below a page: the same pages are on the way, and each has the same bytes
  same_below : (most levels : ℕ) (c : Child P) (low : P) (high : Option P) → Rises s low (walk s was levels c) high → Stay (walk s was levels c)
      → passes new (path_of s now at most (now c.page)) ≡ passes old (path_of s was at most (was c.page))
  same_below zero levels c low high r stay = ap (passes new) (path_zero s now at (now c.page)) ∙ sym (ap (passes old) (path_zero s was at (was c.page)))
  same_below (suc most) levels c low high r stay = by (same_below most) (was c.page) refl
    where
      here : now c.page ≡ was c.page
      here = ap node (stay c.page (reads s was levels c low high r))

      ends : way_of s at (was c.page) ≡ None → passes new (path_of s now at (suc most) (now c.page)) ≡ passes old (path_of s was at (suc most) (was c.page))
      ends e = ap (passes new) (path_leaf s now at (suc most) (now c.page) (ap (way_of s at) here ∙ e)) ∙ sym (ap (passes old) (path_leaf s was at (suc most) (was c.page) e))

      by : ((levels : ℕ) (c : Child P) (low : P) (high : Option P) → Rises s low (walk s was levels c) high → Stay (walk s was levels c) → passes new (path_of s now at most (now c.page)) ≡ passes old (path_of s was at most (was c.page)))
          → (n : Node P E) → was c.page ≡ n → passes new (path_of s now at (suc most) (now c.page)) ≡ passes old (path_of s was at (suc most) (was c.page))
      by deeper (Leaf es) is = ends (ap (way_of s at) is)
      by deeper (Inner []) is = ends (ap (way_of s at) is)
      by deeper (Broken rule) is = ends (ap (way_of s at) is)
      by deeper (Inner (d ∷ ds)) is =
          let l = inner_level s was levels c (d ∷ ds) low high is r in
          let k = child_among s at d ds in
          let all = is ∙ ap (λ (cs : List (Child P)). Inner cs) k.3 in
          let p = inner_part s o was l.0 c k.0 k.1 k.2 low high all (subst (λ (i : ℕ). Rises s low (walk s was i c) high) l.1 r) in
          let u = own c.key k.0 k.1 in
          let way : way_of s at (was c.page) ≡ Some u.page = ap (way_of s at) is ∙ ap Some (sym (own_page c.key k.0 k.1 ∙ k.4)) in
          let stays : Stay (walk s was (suc l.0) u) = λ b more. stay b (let t = times_inner s was l.0 c k.0 k.1 k.2 b all in let e = ap (λ (i : ℕ). times b (walk s was i c)) l.1 in omega (arith, t, e, more)) in
          ap (passes new) (path_next s now at most u.page (now c.page) (ap (way_of s at) here ∙ way))
          ∙ ap₂ (λ (x y : Bool). x && y) (ap test (stays u.page (reads s was (suc l.0) u p.0 (Some p.1) p.2))) (deeper (suc l.0) u p.0 (Some p.1) p.2 stays)
          ∙ sym (ap (passes old) (path_next s was at most u.page (was c.page) way))

  module _ (root : Node P E) (es : List E) (spelled : spells s was root ≡ Ok es) (stay : (b : ℕ) → 0 < (if b == no_page then 0 else times b (tree_of s was root)) → new b ≡ old b) where
    stays_at : (b : ℕ) → (b ≡ no_page → ⊥) → 0 < times b (tree_of s was root) → new b ≡ old b
    stays_at b other more = stay b (subst (λ (x : Bool). 0 < (if x then 0 else times b (tree_of s was root))) (sym (ne_eqb b no_page other)) more)

    pub same_levels : levels_of (with_root root now) 8 no_page ≡ levels_of (with_root root was) 8 no_page
    same_levels = elim (stands s was root es spelled) [
      | inl e ↦ leaf_levels root now [] e.0 ∙ sym (leaf_levels root was [] e.0)
      | inr st ↦ found st
    ]
      where
        found : Stands s (with_root root was) (tree_of s was root) es → levels_of (with_root root now) 8 no_page ≡ levels_of (with_root root was) 8 no_page
        found st =
            levels_found s o (with_root root now) st.levels 8 (top s) s.least None st.most (subst (λ (ms : Marks P E). Rises s s.least ms None) (sym (frame s (with_root root was) (with_root root now) st.levels (top s) agree)) st.rises)
            ∙ sym (levels_found s o (with_root root was) st.levels 8 (top s) s.least None st.most st.rises)
          where
            agree : Agree (with_root root was) (with_root root now) (walk s (with_root root was) st.levels (top s))
            agree n more = by (cases_eq n no_page)
              where
                by : (n ≡ no_page) ⊎ (n ≡ no_page → ⊥) → (if n == no_page then root else now n) ≡ (if n == no_page then root else was n)
                by (inl e) = rw (eq-eqb n no_page e) refl
                by (inr other) = rw (ne_eqb n no_page other) (ap node (stays_at n other (subst (λ (ms : Marks P E). 0 < times n ms) (sym st.is) more)))

    pub same_path : passes new (path_of s now at 7 root) ≡ passes old (path_of s was at 7 root)
    same_path = by root refl
      where
        ends : way_of s at root ≡ None → passes new (path_of s now at 7 root) ≡ passes old (path_of s was at 7 root)
        ends e = ap (passes new) (path_leaf s now at 7 root e) ∙ sym (ap (passes old) (path_leaf s was at 7 root e))

        by : (n : Node P E) → root ≡ n → passes new (path_of s now at 7 root) ≡ passes old (path_of s was at 7 root)
        by (Leaf rest) is = ends (ap (way_of s at) is)
        by (Inner []) is = ends (ap (way_of s at) is)
        by (Broken rule) is = ends (ap (way_of s at) is)
        by (Inner (d ∷ ds)) is = elim (stands s was root es spelled) [
          | inl e ↦ absurd (cc (is, e.0))
          | inr st ↦
              let l = inner_level s (with_root root was) st.levels (top s) (d ∷ ds) s.least None is st.rises in
              let r = subst (λ (i : ℕ). Rises s s.least (walk s (with_root root was) i (top s)) None) l.1 st.rises in
              let k = child_among s at d ds in
              let all = is ∙ ap (λ (cs : List (Child P)). Inner cs) k.3 in
              let p = inner_part s o (with_root root was) l.0 (top s) k.0 k.1 k.2 s.least None all r in
              let u = own s.least k.0 k.1 in
              let off = part_off s o root was l.0 k.0 k.1 k.2 all r in
              let rises = subst (λ (ms : Marks P E). Rises s p.0 ms (Some p.1)) (sym off) p.2 in
              let way : way_of s at root ≡ Some u.page = ap (way_of s at) is ∙ ap Some (sym (own_page s.least k.0 k.1 ∙ k.4)) in
              let stays : Stay (walk s was (suc l.0) u) = λ b more. stays_at b
              (λ e. (let t = times_inner s (with_root root was) l.0 (top s) k.0 k.1 k.2 b all in
              let once = each_once s o (with_root root was) (suc (suc l.0)) (top s) s.least None r b in
              let part = ap (times b) off in
              let one = at_top b e in
              absurd (omega (arith, t, once, part, one, more))))
              (let t = times_inner s (with_root root was) l.0 (top s) k.0 k.1 k.2 b all in
              let part = ap (times b) off in
              let whole = ap (times b) st.is in
              let same = ap (λ (i : ℕ). times b (walk s (with_root root was) i (top s))) l.1 in
              omega (arith, t, part, whole, same, more)) in
              ap (passes new) (path_next s now at 6 u.page root way)
              ∙ ap₂ (λ (x y : Bool). x && y) (ap test (stays u.page (reads s was (suc l.0) u p.0 (Some p.1) rises))) (same_below 6 (suc l.0) u p.0 (Some p.1) rises stays)
              ∙ sym (ap (passes old) (path_next s was at 6 u.page root way))
        ]
