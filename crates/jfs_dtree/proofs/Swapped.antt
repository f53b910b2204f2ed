-- A tree of which one page's entries were changed, each to one that stands in the same place.
use Rattle.std.proofs.Common.{◌≡◌, ◌≢◌, refl, sym, ap, ◌∙◌, subst, ℕ, zero, suc, ◌+◌, Bool, true, false, ◌==◌, if◌then◌else◌, List, [], ◌∷◌, ◌++◌, map, Option, Some, None, Ok}
use Rattle.std.specs.List.{flat_map}
use Rattle.std.proofs.lemmas.Bool.{eqb-true, eq-eqb, true≢false}
use Rattle.jfs_bits.specs.declared.rule.Rule.TheVariants as rules
use Rattle.jfs_tree.specs.Walk.{Child, Node, Leaf, Inner, Broken, Page, Key, Row, Fault, Marks, Scale, Rises, rows_of, times, placed, under, body, walk}
use Rattle.jfs_tree.specs.Spells.{no_page, with_root, one_more, below_first, levels_of, along_first, first_path, top, at_levels, whole, tree_of, judge, spells, footprint}
use Rattle.jfs_tree.proofs.Judge.{judged, judges}

-- a page whose entries were changed
abbrev pub swapped : {P E : Type 0} → (E → E) → Node P E → Node P E
swapped f (Leaf es) = Leaf (map f es)
swapped f (Inner cs) = Inner cs
swapped f (Broken rule) = Broken rule

abbrev pub swap_marks : {P E : Type 0} → (ℕ → E → E) → Marks P E → Marks P E
swap_marks g [] = []
swap_marks g (Page m ∷ ms) = Page m ∷ swap_marks g ms
swap_marks g (Key m k ∷ ms) = Key m k ∷ swap_marks g ms
swap_marks g (Row m e ∷ ms) = Row m (g m e) ∷ swap_marks g ms
swap_marks g (Fault m r ∷ ms) = Fault m r ∷ swap_marks g ms

-- the changed entries take the places of the old ones
pub record KeepsPlaces {P E : Type 0} (s : Scale P E) (g : ℕ → E → E) : Type 0 where
  pub from : (m : ℕ) (e : E) → s.from (g m e) ≡ s.from e
  pub to : (m : ℕ) (e : E) → s.to (g m e) ≡ s.to e
  pub fits : (m : ℕ) (k : P) (e : E) → s.fits k (g m e) ≡ s.fits k e

swap_append : {P E : Type 0} (g : ℕ → E → E) (a b : Marks P E) → swap_marks g (a ++ b) ≡ swap_marks g a ++ swap_marks g b
swap_append g [] b = refl
swap_append g (Page m ∷ ms) b = ap (λ x. Page m ∷ x) (swap_append g ms b)
swap_append g (Key m k ∷ ms) b = ap (λ x. Key m k ∷ x) (swap_append g ms b)
swap_append g (Row m e ∷ ms) b = ap (λ x. Row m (g m e) ∷ x) (swap_append g ms b)
swap_append g (Fault m r ∷ ms) b = ap (λ x. Fault m r ∷ x) (swap_append g ms b)

swap_times : {P E : Type 0} (g : ℕ → E → E) (n : ℕ) (ms : Marks P E) → times n (swap_marks g ms) ≡ times n ms
swap_times g n [] = refl
swap_times g n (Page m ∷ ms) = ap (λ k. (if m == n then 1 else 0) + k) (swap_times g n ms)
swap_times g n (Key m k ∷ ms) = swap_times g n ms
swap_times g n (Row m e ∷ ms) = swap_times g n ms
swap_times g n (Fault m r ∷ ms) = swap_times g n ms

swap_rises : {P E : Type 0} (s : Scale P E) (g : ℕ → E → E) → KeepsPlaces s g → (low : P) (ms : Marks P E) (high : Option P) → Rises s low ms high → Rises s low (swap_marks g ms) high
swap_rises s g k low [] high r = r
swap_rises s g k low (Page m ∷ ms) high r = swap_rises s g k low ms high r
swap_rises s g k low (Key m key ∷ ms) high r = (r.0, swap_rises s g k key ms high r.1)
swap_rises s g k low (Row m e ∷ ms) high r = (ap (s.le low) (k.from m e) ∙ r.0, subst (λ p. Rises s p (swap_marks g ms) high) (sym (k.to m e)) (swap_rises s g k (s.to e) ms high r.1))
swap_rises s g k low (Fault m f ∷ ms) high r = r

module _ {P E : Type 0} (s : Scale P E) (g : ℕ → E → E) (keeps : KeepsPlaces s g) where
  swap_leaf : (m : ℕ) (es : List E) → map (Row m) (map (g m) es) ≡ swap_marks {P = P} g (map (Row m) es)
  swap_leaf m [] = refl
  swap_leaf m (e ∷ es) = ap (λ x. Row m (g m e) ∷ x) (swap_leaf m es)

  swap_flat : (new old : Child P → Marks P E) → ((d : Child P) → new d ≡ swap_marks g (old d)) → (cs : List (Child P)) → flat_map new cs ≡ swap_marks g (flat_map old cs)
  swap_flat new old h [] = refl
  swap_flat new old h (c ∷ cs) = ap (λ x. x ++ flat_map new cs) (h c) ∙ ap (λ x. swap_marks g (old c) ++ x) (swap_flat new old h cs) ∙ sym (swap_append g (old c) (flat_map old cs))

  swap_body : (new old : Child P → Marks P E) (c : Child P) (node : Node P E) → ((d : Child P) → new d ≡ swap_marks g (old d)) → body new c (swapped (g c.page) node) ≡ swap_marks g (body old c node)
  swap_body new old c (Leaf es) h = swap_leaf c.page es
  swap_body new old c (Inner cs) h = swap_flat new old h (under c.key cs)
  swap_body new old c (Broken rule) h = refl

  swap_placed : (below m : ℕ) (key : P) (node : Node P E) → placed s below key (swapped (g m) node) ≡ swapped (g m) (placed s below key node)
  swap_placed zero m key (Leaf []) = refl
  swap_placed zero m key (Leaf (e ∷ es)) = ap (λ b. if b then Leaf (g m e ∷ map (g m) es) else Broken rules.Order) (keeps.fits m key e) ∙ by (s.fits key e)
    where
      by : (b : Bool) → (if b then Leaf (g m e ∷ map (g m) es) else Broken rules.Order) ≡ swapped {P = P} (g m) (if b then Leaf (e ∷ es) else Broken rules.Order)
      by true = refl
      by false = refl
  swap_placed zero m key (Inner cs) = refl
  swap_placed zero m key (Broken rule) = refl
  swap_placed (suc below) m key (Leaf es) = refl
  swap_placed (suc below) m key (Inner []) = refl
  swap_placed (suc below) m key (Inner (c ∷ cs)) = refl
  swap_placed (suc below) m key (Broken rule) = refl

  first_swapped : (new old : ℕ → Option ℕ) (m : ℕ) (node : Node P E) → ((page : ℕ) → new page ≡ old page) → below_first new (swapped (g m) node) ≡ below_first old node
  first_swapped new old m (Leaf es) h = refl
  first_swapped new old m (Inner []) h = refl
  first_swapped new old m (Inner (c ∷ cs)) h = h c.page
  first_swapped new old m (Broken rule) h = refl

  along_swapped : (new old : ℕ → Marks P E) (m : ℕ) (node : Node P E) → ((page : ℕ) → new page ≡ swap_marks g (old page)) → along_first new (swapped (g m) node) ≡ swap_marks g (along_first old node)
  along_swapped new old m (Leaf es) h = refl
  along_swapped new old m (Inner []) h = refl
  along_swapped new old m (Inner (c ∷ cs)) h = h c.page
  along_swapped new old m (Broken rule) h = refl

-- pages that read as the old ones, changed
module _ {P E : Type 0} (s : Scale P E) (g : ℕ → E → E) (keeps : KeepsPlaces s g) (old new : ℕ → Node P E) (same : (m : ℕ) → new m ≡ swapped (g m) (old m)) where
  swap_walk : (levels : ℕ) (c : Child P) → walk s new levels c ≡ swap_marks g (walk s old levels c)
  unfolding walk
  swap_walk zero c = refl
  swap_walk (suc below) c =
      ap (λ node. Key c.page c.key ∷ Page c.page ∷ body (walk s new below) c (placed s below c.key node)) (same c.page)
      ∙ ap (λ node. Key c.page c.key ∷ Page c.page ∷ body (walk s new below) c node) (swap_placed s g keeps below c.page c.key (old c.page))
      ∙ ap (λ ms. Key c.page c.key ∷ Page c.page ∷ ms) (swap_body s g keeps (walk s new below) (walk s old below) c (placed s below c.key (old c.page)) (swap_walk below))

  swap_levels : (most page : ℕ) → levels_of new most page ≡ levels_of old most page
  unfolding levels_of
  swap_levels zero page = refl
  swap_levels (suc most) page =
      ap (λ node. one_more (below_first (levels_of new most) node)) (same page) ∙ ap one_more (first_swapped s g keeps (levels_of new most) (levels_of old most) page (old page) (swap_levels most))

  swap_path : (most page : ℕ) → first_path new most page ≡ swap_marks g (first_path old most page)
  unfolding first_path
  swap_path zero page = refl
  swap_path (suc most) page =
      ap (λ node. Page page ∷ along_first (first_path new most) node) (same page)
      ∙ ap (λ ms. Page page ∷ ms) (along_swapped s g keeps (first_path new most) (first_path old most) page (old page) (swap_path most))

  swap_whole : whole s new ≡ swap_marks g (whole s old)
  swap_whole = ap (at_levels s new) (swap_levels 8 no_page) ∙ by (levels_of old 8 no_page)
    where
      by : (o : Option ℕ) → at_levels s new o ≡ swap_marks g (at_levels s old o)
      by (Some levels) = swap_walk levels (top s)
      by None = swap_path 8 no_page

-- and a root that does
module _ {P E : Type 0} (s : Scale P E) (g : ℕ → E → E) (keeps : KeepsPlaces s g) (old new : ℕ → Node P E) (same : (m : ℕ) → m ≢ no_page → new m ≡ swapped (g m) (old m)) where
  swap_root : (root : Node P E) (m : ℕ) → with_root (swapped (g no_page) root) new m ≡ swapped (g m) (with_root root old m)
  swap_root root m = by (m == no_page) refl
    where
      by : (b : Bool) → (m == no_page) ≡ b → (if b then swapped (g no_page) root else new m) ≡ swapped (g m) (if b then root else old m)
      by true is = ap (λ k. swapped (g k) root) (sym (eqb-true m no_page is))
      by false is = same m (λ e. true≢false (sym (eq-eqb m no_page e) ∙ is))

  swap_tree : (root : Node P E) → tree_of s new (swapped (g no_page) root) ≡ swap_marks g (tree_of s old root)
  swap_tree (Leaf []) = refl
  swap_tree (Leaf (e ∷ es)) = swap_whole s g keeps (with_root (Leaf (e ∷ es)) old) (with_root (swapped (g no_page) (Leaf (e ∷ es))) new) (swap_root (Leaf (e ∷ es)))
  swap_tree (Inner cs) = swap_whole s g keeps (with_root (Inner cs) old) (with_root (Inner cs) new) (swap_root (Inner cs))
  swap_tree (Broken rule) = swap_whole s g keeps (with_root (Broken rule) old) (with_root (Broken rule) new) (swap_root (Broken rule))

  pub swap_spells : (root : Node P E) (es : List E) → spells s old root ≡ Ok es → spells s new (swapped (g no_page) root) ≡ Ok (rows_of (swap_marks g (tree_of s old root)))
  unfolding spells
  swap_spells root es h =
      let j = judged s s.least (tree_of s old root) es h in
      ap (judge s s.least) (swap_tree root) ∙ judges s s.least (swap_marks g (tree_of s old root)) (swap_rises s g keeps s.least (tree_of s old root) None j.0)

  pub swap_footprint : (root : Node P E) (n : ℕ) → footprint s new (swapped (g no_page) root) n ≡ footprint s old root n
  unfolding footprint
  swap_footprint root n = ap (λ ms. if n == no_page then 0 else times n ms) (swap_tree root) ∙ ap (λ k. if n == no_page then 0 else k) (swap_times g n (tree_of s old root))

pub rises_of : {P E : Type 0} (s : Scale P E) (old : ℕ → Node P E) (root : Node P E) (es : List E) → spells s old root ≡ Ok es → Rises s s.least (tree_of s old root) None × (rows_of (tree_of s old root) ≡ es)
unfolding spells
rises_of s old root es h = judged s s.least (tree_of s old root) es h
