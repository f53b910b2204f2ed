-- The leaf at the end of a name's way, among what the tree shows.
use Rattle.std.proofs.Common.{◌≡◌, ◌<◌, inl, inr, refl, sym, ap, ◌∙◌, subst, ℕ, zero, suc, ◌+◌, ◌==◌, if◌then◌else◌, List, [], ◌∷◌, ◌++◌, map, Option, Some, None, Result, Ok, Err, IfOk, arith}
use Rattle.std.specs.List.{flat_map}
use Rattle.jfs_bits.specs.declared.rule.Rule.{Rule}
use Rattle.jfs_tree.specs.Walk.{Child, Node, Leaf, Inner, Broken, Page, Key, Row, Fault, Marks, Scale, Rises, IsOrder, times, under, walk}
use Rattle.jfs_tree.specs.Spells.{no_page, with_root, top, tree_of, spells}
use Rattle.jfs_tree.specs.Edit.{found_in, own}
use Rattle.jfs_tree.specs.Form.{IsLeaf, LeadsDown}
use Rattle.jfs_tree.specs.Path.{further, way_of, found_at, found_below}
use Rattle.jfs_tree.proofs.Adding.{inner_part}
use Rattle.jfs_tree.proofs.Finding.{leaf_level, inner_level}
use Rattle.jfs_tree.proofs.Frame.{times-append, reads_itself}
use Rattle.jfs_tree.proofs.Growing.{own_page}
use Rattle.jfs_tree.proofs.Leaves.{cons_rows, leaf_fits}
use Rattle.jfs_tree.proofs.Path.{looks, leads_among}
use Rattle.jfs_tree.proofs.RootCalls.{leads_more, part_off}
use Rattle.jfs_tree.proofs.Spelled.{stands}
use Rattle.jfs_tree.proofs.Steps.{inner_walk}
use Rattle.jfs_name.specs.declared.name.NameEntry.{NameEntry}
use Rattle.jfs_ranges.specs.declared.view.ViewError.{ViewError}
use Rattle.jfs_dtpage.specs.declared.head.DtForm.TheVariants.{Full}
use Rattle.jfs_dtree.specs.Node.{name_scale, dt_node}
use Rattle.jfs_dtree.specs.Spells.{page_nodes}
use Rattle.jfs_dtree.specs.Replacing.{end_at, end_below}
use Rattle.jfs_dtree.proofs.Led.{HasRow, AnyOf}

-- ---- the way, page by page

end_zero : {P E : Type 0} (s : Scale P E) (nodes : ℕ → Node P E) (at : P) (page : ℕ) → end_below s nodes at zero page ≡ None
unfolding end_below
end_zero s nodes at page = refl

pub end_read : {P E : Type 0} (s : Scale P E) (nodes : ℕ → Node P E) (at : P) (most page : ℕ) (node : Node P E) → nodes page ≡ node → end_below s nodes at (suc most) page ≡ end_at s at (end_below s nodes at most) page node
unfolding end_below
end_read s nodes at most page node is = ap (end_at s at (end_below s nodes at most) page) is

none_some : (n : ℕ) → ◌≡◌ {A = Option ℕ} None (Some n) → ⊥
none_some n e = cc

some_is : (a b : ℕ) → Some a ≡ Some b → a ≡ b
some_is a b e = cc

-- it ends at a leaf
pub ends_leaf : {P E : Type 0} (s : Scale P E) (nodes : ℕ → Node P E) (at : P) (most page n : ℕ) → end_below s nodes at most page ≡ Some n → (es : List E) × (nodes n ≡ Leaf es)
ends_leaf s nodes at zero page n e = absurd (none_some n (sym (end_zero s nodes at page) ∙ e))
ends_leaf {P} {E} s nodes at (suc most) page n e = by (ends_leaf s nodes at most) (nodes page) refl
  where
    by : ((page n : ℕ) → end_below s nodes at most page ≡ Some n → (es : List E) × (nodes n ≡ Leaf es)) → (node : Node P E) → nodes page ≡ node → (es : List E) × (nodes n ≡ Leaf es)
    by deeper (Leaf es) is = (es, ap nodes (sym (some_is page n (sym (end_read s nodes at most page (Leaf es) is) ∙ e))) ∙ is)
    by deeper (Inner []) is = absurd (none_some n (sym (end_read s nodes at most page (Inner []) is) ∙ e))
    by deeper (Inner (c ∷ cs)) is = deeper _ n (sym (end_read s nodes at most page (Inner (c ∷ cs)) is) ∙ e)
    by deeper (Broken rule) is = absurd (none_some n (sym (end_read s nodes at most page (Broken rule) is) ∙ e))

-- what is found on the way is what that leaf has
pub ends_found : {P E : Type 0} (s : Scale P E) (nodes : ℕ → Node P E) (x : E) (most page n : ℕ) (es : List E) → end_below s nodes (s.from x) most page ≡ Some n → nodes n ≡ Leaf es → found_below s nodes x most page ≡ found_in s x es
ends_found s nodes x zero page n es e leaf = absurd (none_some n (sym (end_zero s nodes (s.from x) page) ∙ e))
ends_found {P} {E} s nodes x (suc most) page n es e leaf = by (ends_found s nodes x most) (nodes page) refl
  where
    rows_are : (rows : List E) → nodes page ≡ Leaf rows → page ≡ n → rows ≡ es
    rows_are rows is here = same rows es (sym is ∙ ap nodes here ∙ leaf)
      where
        same : (a b : List E) → ◌≡◌ {A = Node P E} (Leaf a) (Leaf b) → a ≡ b
        same a b e = cc

    by : ((page n : ℕ) (es : List E) → end_below s nodes (s.from x) most page ≡ Some n → nodes n ≡ Leaf es → found_below s nodes x most page ≡ found_in s x es) → (node : Node P E) → nodes page ≡ node → found_below s nodes x (suc most) page ≡ found_in s x es
    by deeper (Leaf rows) is =
        let here = some_is page n (sym (end_read s nodes (s.from x) most page (Leaf rows) is) ∙ e) in
        looks s nodes x (suc most) most page (Leaf rows) refl (sym is) ∙ ap (found_in s x) (rows_are rows is here)
    by deeper (Inner []) is = absurd (none_some n (sym (end_read s nodes (s.from x) most page (Inner []) is) ∙ e))
    by deeper (Inner (c ∷ cs)) is = looks s nodes x (suc most) most page (Inner (c ∷ cs)) refl (sym is) ∙ deeper _ n es (sym (end_read s nodes (s.from x) most page (Inner (c ∷ cs)) is) ∙ e) leaf
    by deeper (Broken rule) is = absurd (none_some n (sym (end_read s nodes (s.from x) most page (Broken rule) is) ∙ e))

-- where it ends nowhere, nothing is found
pub ends_nowhere : {P E : Type 0} (s : Scale P E) (nodes : ℕ → Node P E) (x : E) (most page : ℕ) → end_below s nodes (s.from x) most page ≡ None → found_below s nodes x most page ≡ None
unfolding found_below
ends_nowhere s nodes x zero page e = refl
ends_nowhere {P} {E} s nodes x (suc most) page e = by (ends_nowhere s nodes x most) (nodes page) refl
  where
    by : ((page : ℕ) → end_below s nodes (s.from x) most page ≡ None → found_below s nodes x most page ≡ None) → (node : Node P E) → nodes page ≡ node → found_at s x (found_below s nodes x most) (nodes page) ≡ None
    by deeper (Leaf rows) is = absurd (none_some page (sym (sym (end_read s nodes (s.from x) most page (Leaf rows) is) ∙ e)))
    by deeper (Inner []) is = ap (found_at s x (found_below s nodes x most)) is
    by deeper (Inner (c ∷ cs)) is = ap (found_at s x (found_below s nodes x most)) is ∙ deeper _ (sym (end_read s nodes (s.from x) most page (Inner (c ∷ cs)) is) ∙ e)
    by deeper (Broken rule) is = ap (found_at s x (found_below s nodes x most)) is

-- ---- its entries are shown

has_left : {P E : Type 0} (p : E → Type 0) (n : ℕ) (a b : Marks P E) → HasRow p n a → HasRow p n (a ++ b)
has_left p n [] b h = absurd h
has_left p n (Page m ∷ ms) b h = has_left p n ms b h
has_left p n (Key m k ∷ ms) b h = has_left p n ms b h
has_left p n (Row m e ∷ ms) b (inl h) = inl h
has_left p n (Row m e ∷ ms) b (inr h) = inr (has_left p n ms b h)
has_left p n (Fault m r ∷ ms) b h = has_left p n ms b h

has_right : {P E : Type 0} (p : E → Type 0) (n : ℕ) (a b : Marks P E) → HasRow p n b → HasRow p n (a ++ b)
has_right p n [] b h = h
has_right p n (Page m ∷ ms) b h = has_right p n ms b h
has_right p n (Key m k ∷ ms) b h = has_right p n ms b h
has_right p n (Row m e ∷ ms) b h = inr (has_right p n ms b h)
has_right p n (Fault m r ∷ ms) b h = has_right p n ms b h

rows_any : (P : Type 0) {E : Type 0} (p : E → Type 0) (n : ℕ) (es : List E) → AnyOf p es → HasRow {P = P} p n (map (Row n) es)
rows_any P p n [] h = absurd h
rows_any P p n (e ∷ es) (inl h) = inl (refl, h)
rows_any P p n (e ∷ es) (inr h) = inr (rows_any P p n es h)

-- an entry of a page, and the page itself
abbrev pub Shows : {P E : Type 0} → (E → Type 0) → ℕ → Marks P E → Type 0
Shows p n ms = HasRow p n ms × (0 < times n ms)

leaf_shows : {P E : Type 0} (s : Scale P E) (nodes : ℕ → Node P E) (p : E → Type 0) (levels : ℕ) (c : Child P) (es : List E) (low : P) (high : Option P) → nodes c.page ≡ Leaf es → AnyOf p es → Rises s low (walk s nodes levels c) high → Shows p c.page (walk s nodes levels c)
leaf_shows {P} s nodes p levels c es low high is any r =
    let one = leaf_level s nodes levels c es low high is r in
    let fits = leaf_fits s nodes c es low high is (subst (λ l. Rises s low (walk s nodes l c) high) one r) in
    subst (Shows p c.page) (sym (ap (λ l. walk s nodes l c) one ∙ cons_rows s nodes c es fits is)) (rows_any P p c.page es any, reads_itself c.page (map (Row c.page) es))

middle_shows : {P E : Type 0} (s : Scale P E) (nodes : ℕ → Node P E) (p : E → Type 0) (n lower : ℕ) (c : Child P) (front : List (Child P)) (t : Child P) (back : List (Child P)) → nodes c.page ≡ Inner (front ++ t ∷ back)
    → Shows p n (walk s nodes (suc lower) (own c.key front t)) → Shows p n (walk s nodes (suc (suc lower)) c)
middle_shows s nodes p n lower c front t back is shows =
    let A = flat_map (walk s nodes (suc lower)) (under c.key front) in
    let T = walk s nodes (suc lower) (own c.key front t) in
    let B = flat_map (walk s nodes (suc lower)) back in
    let a = times-append n A (T ++ B) in
    let b = times-append n T B in
    let some = shows.1 in
    let more : 0 < (if c.page == n then 1 else 0) + times n (A ++ (T ++ B)) = omega (arith, a, b, some) in
    subst (Shows p n) (sym (inner_walk s nodes lower c front t back is)) (has_right p n A (T ++ B) (has_left p n T B shows.0), more)

-- below a page
pub way_shows : {P E : Type 0} (s : Scale P E) → IsOrder s → (x : E) (nodes : ℕ → Node P E) (p : E → Type 0) (n : ℕ) (rows : List E) → nodes n ≡ Leaf rows → AnyOf p rows → (most levels : ℕ) (c : Child P) (low : P) (high : Option P)
    → end_below s nodes (s.from x) most c.page ≡ Some n → Rises s low (walk s nodes levels c) high → Shows p n (walk s nodes levels c)
way_shows s o x nodes p n rows leaf any zero levels c low high e r = absurd (none_some n (sym (end_zero s nodes (s.from x) c.page) ∙ e))
way_shows {P} {E} s o x nodes p n rows leaf any (suc most) levels c low high e r = by (way_shows s o x nodes p n rows leaf any most) (nodes c.page) refl
  where
    by : ((levels : ℕ) (c : Child P) (low : P) (high : Option P) → end_below s nodes (s.from x) most c.page ≡ Some n → Rises s low (walk s nodes levels c) high → Shows p n (walk s nodes levels c))
        → (node : Node P E) → nodes c.page ≡ node → Shows p n (walk s nodes levels c)
    by deeper (Leaf es) is =
        let here = some_is c.page n (sym (end_read s nodes (s.from x) most c.page (Leaf es) is) ∙ e) in
        subst (λ k. Shows p k (walk s nodes levels c)) here (leaf_shows s nodes p levels c rows low high (ap nodes here ∙ leaf) any r)
    by deeper (Inner []) is = absurd (none_some n (sym (end_read s nodes (s.from x) most c.page (Inner []) is) ∙ e))
    by deeper (Inner (d ∷ ds)) is =
        let l = inner_level s nodes levels c (d ∷ ds) low high is r in
        let k = leads_among s x d ds in
        let all = is ∙ ap (λ cs. Inner cs) k.3 in
        let part = inner_part s o nodes l.0 c k.0 k.1 k.2 low high all (subst (λ i. Rises s low (walk s nodes i c) high) l.1 r) in
        let there = deeper (suc l.0) (own c.key k.0 k.1) part.0 (Some part.1)
        (ap (end_below s nodes (s.from x) most) (own_page c.key k.0 k.1 ∙ k.4) ∙ sym (end_read s nodes (s.from x) most c.page (Inner (d ∷ ds)) is) ∙ e) part.2 in
        subst (λ i. Shows p n (walk s nodes i c)) (sym l.1) (middle_shows s nodes p n l.0 c k.0 k.1 k.2 all there)
    by deeper (Broken rule) is = absurd (none_some n (sym (end_read s nodes (s.from x) most c.page (Broken rule) is) ∙ e))

-- a root that leads to a child
pub root_shows : {P E : Type 0} (s : Scale P E) → IsOrder s → (x : E) (pages : ℕ → Node P E) (root : Node P E) (p : E → Type 0) (n : ℕ) (rows es : List E) (place child : ℕ) → LeadsDown s x root place child
    → end_below s pages (s.from x) 7 child ≡ Some n → pages n ≡ Leaf rows → AnyOf p rows → spells s pages root ≡ Ok es → Shows p n (tree_of s pages root)
root_shows {P} {E} s o x pages root p n rows es place child leads e leaf any spelled = elim (stands s pages root es spelled) [
  | inl h ↦ absurd (leads_more P E (leads.front ++ leads.child ∷ leads.back) (sym leads.is ∙ h.0))
  | inr st ↦
      let l = inner_level s (with_root root pages) st.levels (top s) (leads.front ++ leads.child ∷ leads.back) s.least None leads.is st.rises in
      let r = subst (λ i. Rises s s.least (walk s (with_root root pages) i (top s)) None) l.1 st.rises in
      let part = inner_part s o (with_root root pages) l.0 (top s) leads.front leads.child leads.back s.least None leads.is r in
      let off = part_off s o root pages l.0 leads.front leads.child leads.back leads.is r in
      let there = way_shows s o x pages p n rows leaf any 7 (suc l.0) (own s.least leads.front leads.child) part.0 (Some part.1)
      (ap (end_below s pages (s.from x) 7) (own_page s.least leads.front leads.child ∙ leads.to) ∙ e) (subst (λ ms. Rises s part.0 ms (Some part.1)) (sym off) part.2) in
      subst (Shows p n) (sym (st.is ∙ ap (λ i. walk s (with_root root pages) i (top s)) l.1))
      (middle_shows s (with_root root pages) p n l.0 (top s) leads.front leads.child leads.back leads.is (subst (Shows p n) off there))
]

-- a root that is a leaf
pub leaf_root_shows : {P E : Type 0} (s : Scale P E) (pages : ℕ → Node P E) (root : Node P E) (p : E → Type 0) (rows es : List E) → root ≡ Leaf rows → AnyOf p rows → spells s pages root ≡ Ok es → Shows p no_page (tree_of s pages root)
leaf_root_shows {P} {E} s pages root p rows es is any spelled = elim (stands s pages root es spelled) [
  | inl h ↦ absurd (none rows (sym is ∙ h.0) any)
  | inr st ↦ subst (Shows p no_page) (sym st.is) (leaf_shows s (with_root root pages) p st.levels (top s) rows s.least None is any st.rises)
]
  where
    same : (a b : List E) → ◌≡◌ {A = Node P E} (Leaf a) (Leaf b) → a ≡ b
    same a b e = cc

    none : (rows : List E) → ◌≡◌ {A = Node P E} (Leaf rows) (Leaf []) → AnyOf p rows → ⊥
    none rows e any = subst (AnyOf p) (same rows [] e) any

-- ---- as a walk reads it

end_next : {P E : Type 0} (s : Scale P E) (at : P) (below : ℕ → Option ℕ) (page child : ℕ) (node : Node P E) → way_of s at node ≡ Some child → end_at s at below page node ≡ below child
end_next s at below page child (Leaf es) h = cc
end_next s at below page child (Inner []) h = cc
end_next s at below page child (Inner (c ∷ cs)) h = ap (further below) h
end_next s at below page child (Broken rule) h = cc

pub end_past : {P E : Type 0} (s : Scale P E) (nodes : ℕ → Node P E) (at : P) (left page : ℕ) → left ≡ 0 → None ≡ end_below s nodes at left page
end_past s nodes at left page is = sym (ap (λ k. end_below s nodes at k page) is ∙ end_zero s nodes at page)

module _ (blocks : ℕ) (pages : ℕ → List ℕ) (name : List ℕ) (left less page : ℕ) (bytes : List ℕ) (is : left ≡ suc less) (read : bytes ≡ pages page) where
  end_as : end_below name_scale (page_nodes blocks pages) name left page ≡ end_at name_scale name (end_below name_scale (page_nodes blocks pages) name less) page (dt_node Full blocks bytes)
  end_as = ap (λ k. end_below name_scale (page_nodes blocks pages) name k page) is ∙ end_read name_scale (page_nodes blocks pages) name less page (dt_node Full blocks bytes) (ap (dt_node Full blocks) (sym read))

  pub end_breaks : (rule : Rule) → dt_node Full blocks bytes ≡ Broken rule → None ≡ end_below name_scale (page_nodes blocks pages) name left page
  end_breaks rule broken = sym (end_as ∙ ap (end_at name_scale name (end_below name_scale (page_nodes blocks pages) name less) page) broken)

  pub end_here : IsLeaf (dt_node Full blocks bytes) → Some page ≡ end_below name_scale (page_nodes blocks pages) name left page
  end_here leaf = sym (end_as ∙ ap (end_at name_scale name (end_below name_scale (page_nodes blocks pages) name less) page) leaf.1)

  pub end_goes : (x : NameEntry) (later : ℕ → List ℕ) (place child : ℕ) (r : Result (Option ℕ) ViewError) → x.name ≡ name → LeadsDown name_scale x (dt_node Full blocks bytes) place child → later ≡ pages
      → IfOk r (λ end. end ≡ end_below name_scale (page_nodes blocks later) name less child) → IfOk r (λ end. end ≡ end_below name_scale (page_nodes blocks pages) name left page)
  end_goes x later place child (Ok end) named leads same h =
      h ∙ ap (λ q. end_below name_scale (page_nodes blocks q) name less child) same
      ∙ sym (end_as ∙ end_next name_scale name (end_below name_scale (page_nodes blocks pages) name less) page child (dt_node Full blocks bytes) (ap (λ n. way_of name_scale n (dt_node Full blocks bytes)) (sym named) ∙ leads.alone))
  end_goes x later place child (Err e) named leads same h = h
