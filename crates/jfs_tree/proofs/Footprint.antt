-- Pages outside a tree's footprint don't matter.
use Rattle.std.proofs.Common.{◌≡◌, ◌<◌, refl, sym, ap, ◌∙◌, subst, ℕ, zero, suc, Bool, true, false, [], ◌∷◌, ◌==◌, if◌then◌else◌, Option, Some, None}
use Rattle.std.specs.List.{flat_map}
use Rattle.jfs_tree.specs.Walk.{Child, Node, Leaf, Inner, Broken, Page, Key, Marks, Scale, times, placed, body, walk}
use Rattle.jfs_tree.specs.Spells.{no_page, with_root, one_more, below_first, levels_of, along_first, first_path, top, at_levels, whole, tree_of, judge, spells, footprint}
use Rattle.jfs_tree.proofs.Frame.{Agree, agree_left, agree_right, frame, reads_itself}

some_same : (a b : ℕ) → Some a ≡ Some b → a ≡ b
some_same a b h = cc

-- what is one more than something
pub OneMore : Option ℕ → ℕ → Type 0
OneMore o h = (k : ℕ) × (h ≡ suc k) × (o ≡ Some k)

less_one : (o : Option ℕ) (h : ℕ) → one_more o ≡ Some h → OneMore o h
unfolding OneMore
less_one None h e = cc
less_one (Some k) h e = (k, sym (some_same (suc k) h e), refl)

pub levels_suc : {P E : Type 0} (nodes : ℕ → Node P E) (most page h : ℕ) → levels_of nodes most page ≡ Some h → (k : ℕ) × (h ≡ suc k)
unfolding levels_of OneMore
levels_suc nodes zero page h e = cc
levels_suc nodes (suc most) page h e = let t = less_one (below_first (levels_of nodes most) (nodes page)) h e in (t.0, t.1)

first_agrees : {P E : Type 0} (s : Scale P E) (old new : ℕ → Node P E) (most : ℕ) (c : Child P) (k : ℕ) (node : Node P E)
    → ((d : Child P) (h : ℕ) → levels_of old most d.page ≡ Some h → Agree old new (walk s old h d) → levels_of new most d.page ≡ Some h)
    → below_first (levels_of old most) node ≡ Some k → Agree old new (body (walk s old k) c (placed s k c.key node))
    → below_first (levels_of new most) node ≡ Some k
first_agrees s old new most c k (Leaf es) h e agree = e
first_agrees s old new most c k (Inner []) h e agree = e
first_agrees {P} s old new most c k (Inner (d ∷ ds)) h e agree =
    let u : Child P = record { key = c.key; page = d.page } in
    let t = levels_suc old most d.page k e in
    h u k e (agree_left old new (walk s old k u) (flat_map (walk s old k) ds)
    (subst (λ j. Agree old new (body (walk s old k) c (placed s j c.key (Inner (d ∷ ds))))) t.1 agree))
first_agrees s old new most c k (Broken rule) h e agree = e

levels_agree : {P E : Type 0} (s : Scale P E) (old new : ℕ → Node P E) (most : ℕ) (c : Child P) (h : ℕ)
    → levels_of old most c.page ≡ Some h → Agree old new (walk s old h c) → levels_of new most c.page ≡ Some h
unfolding levels_of walk OneMore
levels_agree s old new zero c h e agree = cc
levels_agree s old new (suc most) c h e agree =
    let t = less_one (below_first (levels_of old most) (old c.page)) h e in
    let there = subst (λ i. Agree old new (walk s old i c)) t.1 agree in
    let page = there c.page (reads_itself c.page (body (walk s old t.0) c (placed s t.0 c.key (old c.page)))) in
    let rest = agree_right old new (Key c.page c.key ∷ Page c.page ∷ []) (body (walk s old t.0) c (placed s t.0 c.key (old c.page))) there in
    ap (λ node. one_more (below_first (levels_of new most) node)) page
    ∙ ap one_more (first_agrees s old new most c t.0 (old c.page) (λ d i k a. levels_agree s old new most d i k a) t.2 rest)
    ∙ ap Some (sym t.1)

path_agrees_in : {P E : Type 0} (old new : ℕ → Node P E) (f g : ℕ → Marks P E) (l m : ℕ → Option ℕ)
    → ((page : ℕ) → l page ≡ None → Agree old new (f page) → (m page ≡ None) × (g page ≡ f page)) → (node : Node P E) → below_first l node ≡ None → Agree old new (along_first f node)
    → (below_first m node ≡ None) × (along_first g node ≡ along_first f node)
path_agrees_in old new f g l m h (Leaf es) e agree = (e, refl)
path_agrees_in old new f g l m h (Inner []) e agree = (e, refl)
path_agrees_in old new f g l m h (Inner (c ∷ cs)) e agree = h c.page e agree
path_agrees_in old new f g l m h (Broken rule) e agree = (e, refl)

none_less : (o : Option ℕ) → one_more o ≡ None → o ≡ None
none_less None e = refl
none_less (Some k) e = cc

path_agrees : {P E : Type 0} (old new : ℕ → Node P E) (most page : ℕ) → levels_of old most page ≡ None → Agree old new (first_path old most page)
    → (levels_of new most page ≡ None) × (first_path new most page ≡ first_path old most page)
unfolding levels_of first_path
path_agrees old new zero page e agree = (refl, refl)
path_agrees old new (suc most) page e agree =
    let here = agree page (reads_itself page (along_first (first_path old most) (old page))) in
    let t = path_agrees_in old new (first_path old most) (first_path new most) (levels_of old most) (levels_of new most) (path_agrees old new most) (old page)
    (none_less (below_first (levels_of old most) (old page)) e) (agree_right old new (Page page ∷ []) (along_first (first_path old most) (old page)) agree) in (
      ap (λ node. one_more (below_first (levels_of new most) node)) here ∙ ap one_more t.0,
      ap (λ node. Page page ∷ along_first (first_path new most) node) here ∙ ap (λ ms. Page page ∷ ms) t.1,
    )

at_agrees : {P E : Type 0} (s : Scale P E) (old new : ℕ → Node P E) (o : Option ℕ) → levels_of old 8 no_page ≡ o → Agree old new (at_levels s old o)
    → (levels_of new 8 no_page ≡ o) × (at_levels s new o ≡ at_levels s old o)
at_agrees s old new None e agree = path_agrees old new 8 no_page e agree
at_agrees s old new (Some h) e agree = (levels_agree s old new 8 (top s) h e agree, frame s old new h (top s) agree)

whole_agrees : {P E : Type 0} (s : Scale P E) (old new : ℕ → Node P E) → Agree old new (whole s old) → whole s new ≡ whole s old
whole_agrees s old new agree =
    let t = at_agrees s old new (levels_of old 8 no_page) refl agree in ap (at_levels s new) t.0 ∙ t.1

root_agrees : {P E : Type 0} (s : Scale P E) (old new : ℕ → Node P E) (root : Node P E) (ms : Marks P E)
    → ((n : ℕ) → 0 < (if n == no_page then 0 else times n ms) → new n ≡ old n) → Agree (with_root root old) (with_root root new) ms
root_agrees {P} {E} s old new root ms h n t = by (n == no_page) refl t
  where
    by : (b : Bool) → (n == no_page) ≡ b → 0 < times n ms → (if b then root else new n) ≡ (if b then root else old n)
    by true e t = refl
    by false e t = h n (subst (λ b. 0 < (if b then 0 else times n ms)) (sym e) t)

-- The frame law: pages that agree on the footprint of a root give the same tree.
pub tree_frame : {P E : Type 0} (s : Scale P E) (old new : ℕ → Node P E) (root : Node P E) → ((n : ℕ) → 0 < footprint s old root n → new n ≡ old n) → tree_of s new root ≡ tree_of s old root
unfolding footprint
tree_frame s old new (Leaf []) h = refl
tree_frame s old new (Leaf (e ∷ es)) h = whole_agrees s (with_root (Leaf (e ∷ es)) old) (with_root (Leaf (e ∷ es)) new) (root_agrees s old new (Leaf (e ∷ es)) (tree_of s old (Leaf (e ∷ es))) h)
tree_frame s old new (Inner cs) h = whole_agrees s (with_root (Inner cs) old) (with_root (Inner cs) new) (root_agrees s old new (Inner cs) (tree_of s old (Inner cs)) h)
tree_frame s old new (Broken rule) h = whole_agrees s (with_root (Broken rule) old) (with_root (Broken rule) new) (root_agrees s old new (Broken rule) (tree_of s old (Broken rule)) h)

-- so what the root spells is the same, and so is its footprint
pub spells_frame : {P E : Type 0} (s : Scale P E) (old new : ℕ → Node P E) (root : Node P E) → ((n : ℕ) → 0 < footprint s old root n → new n ≡ old n) → spells s new root ≡ spells s old root
unfolding spells
spells_frame s old new root h = ap (judge s s.least) (tree_frame s old new root h)

pub footprint_frame : {P E : Type 0} (s : Scale P E) (old new : ℕ → Node P E) (root : Node P E) → ((n : ℕ) → 0 < footprint s old root n → new n ≡ old n) → (n : ℕ) → footprint s new root n ≡ footprint s old root n
unfolding footprint
footprint_frame s old new root h n = ap (λ ms. if n == no_page then 0 else times n ms) (tree_frame s old new root h)
