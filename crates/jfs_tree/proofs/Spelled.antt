-- What a root spells, and the walk at the level of its leaves.
use Rattle.std.proofs.Common.{◌≡◌, ◌≤◌, ◌⊎◌, inl, inr, refl, ap, ◌∙◌, subst, ℕ, zero, suc, List, [], ◌∷◌, Option, Some, None, Result, Ok, arith}
use Rattle.std.specs.List.{flat_map}
use Rattle.jfs_tree.specs.Walk.{Child, Node, Leaf, Inner, Broken, Marks, Scale, Rises, IsOrder, rows_of, placed, body, walk}
use Rattle.jfs_tree.specs.Spells.{no_page, with_root, one_more, below_first, levels_of, along_first, first_path, top, at_levels, whole, tree_of, judge, spells}
use Rattle.jfs_tree.proofs.Rising.{rises_cut}
use Rattle.jfs_tree.proofs.Judge.{judged, judges}

first_level : {P E : Type 0} (s : Scale P E) → IsOrder s → (f : Child P → Marks P E) (g : ℕ → Option ℕ) (c : Child P) (low : P) (high : Option P) (below : ℕ) (node : Node P E)
    → Rises s low (body f c (placed s below c.key node)) high
    → ((d : Child P) (most : Option P) → Rises s low (f d) most → g d.page ≡ Some below) → below_first g node ≡ Some below
first_level s o f g c low high zero (Leaf es) r h = refl
first_level s o f g c low high zero (Inner cs) r h = absurd r
first_level s o f g c low high zero (Broken rule) r h = absurd r
first_level s o f g c low high (suc below) (Leaf es) r h = absurd r
first_level s o f g c low high (suc below) (Inner []) r h = absurd r
first_level {P} s o f g c low high (suc below) (Inner (d ∷ ds)) r h =
    let u : Child P = record { key = c.key; page = d.page } in
    let t = rises_cut s o low (f u) (flat_map f ds) high r in h u (Some t.0) t.1
first_level s o f g c low high (suc below) (Broken rule) r h = absurd r

not_below : (n : ℕ) → suc n ≤ 0 → ⊥
not_below n h = omega (arith, h)

-- in what rises the first children end at the level of all leaves
pub levels_found : {P E : Type 0} (s : Scale P E) → IsOrder s → (nodes : ℕ → Node P E) (levels most : ℕ) (c : Child P) (low : P) (high : Option P)
    → levels ≤ most → Rises s low (walk s nodes levels c) high → levels_of nodes most c.page ≡ Some levels
unfolding walk levels_of
levels_found s o nodes zero most c low high l r = absurd r
levels_found s o nodes (suc below) zero c low high l r = absurd (not_below below l)
levels_found s o nodes (suc below) (suc most) c low high l r =
    ap one_more (first_level s o (walk s nodes below) (levels_of nodes most) c c.key high below (nodes c.page) r.1
    (λ d m h. levels_found s o nodes below most d c.key m (omega (arith, l)) h))

some_is : (a b : ℕ) → Some a ≡ Some b → a ≡ b
some_is a b h = cc

within_more : (o : Option ℕ) (most h : ℕ) → ((k : ℕ) → o ≡ Some k → k ≤ most) → one_more o ≡ Some h → h ≤ suc most
within_more None most h f e = cc
within_more (Some k) most h f e = let i = some_is (suc k) h e in let l = f k refl in omega (arith, i, l)

within_first : {P E : Type 0} (f : ℕ → Option ℕ) (most : ℕ) → ((page k : ℕ) → f page ≡ Some k → k ≤ most) → (node : Node P E) (k : ℕ) → below_first f node ≡ Some k → k ≤ most
within_first f most h (Leaf es) k e = let i = some_is 0 k e in omega (arith, i)
within_first f most h (Inner []) k e = let i = some_is 0 k e in omega (arith, i)
within_first f most h (Inner (c ∷ cs)) k e = h c.page k e
within_first f most h (Broken rule) k e = let i = some_is 0 k e in omega (arith, i)

levels_within : {P E : Type 0} (nodes : ℕ → Node P E) (most page h : ℕ) → levels_of nodes most page ≡ Some h → h ≤ most
unfolding levels_of
levels_within nodes zero page h e = cc
levels_within nodes (suc most) page h e = within_more (below_first (levels_of nodes most) (nodes page)) most h (within_first (levels_of nodes most) most (levels_within nodes most) (nodes page)) e

none_more : (o : Option ℕ) → one_more o ≡ None → o ≡ None
none_more None e = refl
none_more (Some k) e = cc

no_rise : {P E : Type 0} (s : Scale P E) (f : ℕ → Option ℕ) (g : ℕ → Marks P E) (low : P) (high : Option P)
    → ((page : ℕ) → f page ≡ None → Rises s low (g page) high → ⊥) → (node : Node P E) → below_first f node ≡ None → Rises s low (along_first g node) high → ⊥
no_rise s f g low high h (Leaf es) e r = cc
no_rise s f g low high h (Inner []) e r = cc
no_rise s f g low high h (Inner (c ∷ cs)) e r = h c.page e r
no_rise s f g low high h (Broken rule) e r = cc

-- a way that is too long breaks a rule
path_breaks : {P E : Type 0} (s : Scale P E) (nodes : ℕ → Node P E) (most page : ℕ) (low : P) (high : Option P) → levels_of nodes most page ≡ None → Rises s low (first_path nodes most page) high → ⊥
unfolding levels_of first_path
path_breaks s nodes zero page low high e r = r
path_breaks s nodes (suc most) page low high e r =
    no_rise s (levels_of nodes most) (first_path nodes most) low high (λ p d t. path_breaks s nodes most p low high d t) (nodes page) (none_more (below_first (levels_of nodes most) (nodes page)) e) r

-- A root that spells these entries, as the walk at the level of its leaves.
pub record Stands {P E : Type 0} (s : Scale P E) (nodes : ℕ → Node P E) (ms : Marks P E) (es : List E) : Type 0 where
  pub levels : ℕ
  pub most : levels ≤ 8
  pub is : ms ≡ walk s nodes levels (top s)
  pub rises : Rises s s.least (walk s nodes levels (top s)) None
  pub rows : rows_of (walk s nodes levels (top s)) ≡ es

stands_at : {P E : Type 0} (s : Scale P E) (nodes : ℕ → Node P E) (es : List E) (o : Option ℕ) → levels_of nodes 8 no_page ≡ o → judge s s.least (at_levels s nodes o) ≡ Ok es → Stands s nodes (at_levels s nodes o) es
stands_at s nodes es None e h = absurd (path_breaks s nodes 8 no_page s.least None e (judged s s.least (first_path nodes 8 no_page) es h).0)
stands_at s nodes es (Some levels) e h =
    let j = judged s s.least (walk s nodes levels (top s)) es h in
    record { levels = levels; most = levels_within nodes 8 no_page levels e; is = refl; rises = j.0; rows = j.1 }

nil_is : {E F : Type 0} (es : List E) (r : Result (List E) F) → r ≡ Ok [] → r ≡ Ok es → es ≡ []
nil_is es r a b = cc

-- what spells entries is an empty leaf, or rises
pub stands : {P E : Type 0} (s : Scale P E) (pages : ℕ → Node P E) (root : Node P E) (es : List E) → spells s pages root ≡ Ok es
    → ((root ≡ Leaf []) × (es ≡ [])) ⊎ Stands s (with_root root pages) (tree_of s pages root) es
unfolding spells
stands s pages (Leaf []) es h = inl (refl, nil_is es (judge s s.least (tree_of s pages (Leaf []))) refl h)
stands s pages (Leaf (e ∷ rest)) es h = inr (stands_at s (with_root (Leaf (e ∷ rest)) pages) es (levels_of (with_root (Leaf (e ∷ rest)) pages) 8 no_page) refl h)
stands s pages (Inner cs) es h = inr (stands_at s (with_root (Inner cs) pages) es (levels_of (with_root (Inner cs) pages) 8 no_page) refl h)
stands s pages (Broken rule) es h = inr (stands_at s (with_root (Broken rule) pages) es (levels_of (with_root (Broken rule) pages) 8 no_page) refl h)

no_rows : {P E : Type 0} (s : Scale P E) (nodes : ℕ → Node P E) (levels : ℕ) (c : Child P) (low : P) (high : Option P) → nodes c.page ≡ Leaf [] → Rises s low (walk s nodes levels c) high → ⊥
unfolding walk
no_rows s nodes zero c low high e r = r
no_rows s nodes (suc zero) c low high e r = subst (λ node. Rises s c.key (body (walk s nodes zero) c (placed s zero c.key node)) high) e r.1
no_rows s nodes (suc (suc below)) c low high e r = subst (λ node. Rises s c.key (body (walk s nodes (suc below)) c (placed s (suc below) c.key node)) high) e r.1

tree_is : {P E : Type 0} (s : Scale P E) → IsOrder s → (pages : ℕ → Node P E) (root : Node P E) (levels : ℕ) → Rises s s.least (walk s (with_root root pages) levels (top s)) None → tree_of s pages root ≡ whole s (with_root root pages)
tree_is s o pages (Leaf []) levels r = absurd (no_rows s (with_root (Leaf []) pages) levels (top s) s.least None refl r)
tree_is s o pages (Leaf (e ∷ rest)) levels r = refl
tree_is s o pages (Inner cs) levels r = refl
tree_is s o pages (Broken rule) levels r = refl

-- what rises within 8 levels is what the root shows
pub tree_rises : {P E : Type 0} (s : Scale P E) → IsOrder s → (pages : ℕ → Node P E) (root : Node P E) (levels : ℕ) → levels ≤ 8 → Rises s s.least (walk s (with_root root pages) levels (top s)) None
    → tree_of s pages root ≡ walk s (with_root root pages) levels (top s)
tree_rises s o pages root levels l r =
    tree_is s o pages root levels r ∙ ap (at_levels s (with_root root pages)) (levels_found s o (with_root root pages) levels 8 (top s) s.least None l r)

-- and it is spelled
pub spelled : {P E : Type 0} (s : Scale P E) → IsOrder s → (pages : ℕ → Node P E) (root : Node P E) (levels : ℕ) → levels ≤ 8 → Rises s s.least (walk s (with_root root pages) levels (top s)) None
    → spells s pages root ≡ Ok (rows_of (walk s (with_root root pages) levels (top s)))
unfolding spells
spelled s o pages root levels l r = ap (judge s s.least) (tree_rises s o pages root levels l r) ∙ judges s s.least (walk s (with_root root pages) levels (top s)) r
