-- A page whose first key is made the least one shows what it showed: the page's own key stands for that of its first child.
use Rattle.std.proofs.Common.{◌≡◌, inl, inr, refl, ap, ◌∙◌, ℕ, zero, suc, ◌==◌, Bool, true, false, if◌then◌else◌, List, [], ◌∷◌, ◌++◌, Option, Some, None}
use Rattle.std.specs.List.{flat_map}
use Rattle.jfs_tree.specs.Walk.{Child, Node, Leaf, Inner, Broken, Page, Key, Marks, Scale, times, placed, under, body, walk}
use Rattle.jfs_tree.specs.Spells.{no_page, with_root, one_more, below_first, levels_of, along_first, first_path, top, at_levels, whole, tree_of, judge, spells, footprint}
use Rattle.jfs_tree.specs.Leftmost.{IsLowered, lowest}

pub lowest_twice : {P E : Type 0} (s : Scale P E) (node : Node P E) → lowest s (lowest s node) ≡ lowest s node
lowest_twice s (Leaf es) = refl
lowest_twice s (Inner []) = refl
lowest_twice s (Inner (c ∷ cs)) = refl
lowest_twice s (Broken rule) = refl

pub lowered_on : {P E : Type 0} (s : Scale P E) (a b c : Node P E) → IsLowered s a b → IsLowered s b c → IsLowered s a c
lowered_on s a b c (inl e) (inl f) = inl (f ∙ e)
lowered_on s a b c (inl e) (inr f) = inr (f ∙ ap (lowest s) e)
lowered_on s a b c (inr e) (inl f) = inr (f ∙ e)
lowered_on s a b c (inr e) (inr f) = inr (f ∙ ap (lowest s) e ∙ lowest_twice s a)

-- what is the same of a page and of the page with the least first key is the same where a page is lowered
pub by_lowered : {P E : Type 0} {X : Type 0} (s : Scale P E) (f : Node P E → X) (old new : Node P E) → IsLowered s old new → f (lowest s old) ≡ f old → f new ≡ f old
by_lowered s f old new (inl e) h = ap f e
by_lowered s f old new (inr e) h = ap f e ∙ h

-- ---- the walk

lowest_body : {P E : Type 0} (s : Scale P E) (f : Child P → Marks P E) (below : ℕ) (c : Child P) (node : Node P E) → body f c (placed s below c.key (lowest s node)) ≡ body f c (placed s below c.key node)
lowest_body s f zero c (Leaf es) = refl
lowest_body s f zero c (Inner cs) = refl
lowest_body s f zero c (Broken rule) = refl
lowest_body s f (suc below) c (Leaf es) = refl
lowest_body s f (suc below) c (Inner []) = refl
lowest_body s f (suc below) c (Inner (d ∷ ds)) = refl
lowest_body s f (suc below) c (Broken rule) = refl

all_alike : {P E : Type 0} (f g : Child P → Marks P E) (cs : List (Child P)) → ((c : Child P) → g c ≡ f c) → flat_map g cs ≡ flat_map f cs
all_alike f g [] h = refl
all_alike f g (c ∷ cs) h = ap (λ ms. ms ++ flat_map g cs) (h c) ∙ ap (λ ms. f c ++ ms) (all_alike f g cs h)

body_alike : {P E : Type 0} (f g : Child P → Marks P E) (c : Child P) (node : Node P E) → ((d : Child P) → g d ≡ f d) → body g c node ≡ body f c node
body_alike f g c (Leaf es) h = refl
body_alike f g c (Inner cs) h = all_alike f g (under c.key cs) h
body_alike f g c (Broken rule) h = refl

module _ {P E : Type 0} (s : Scale P E) (old new : ℕ → Node P E) (lowered : (n : ℕ) → IsLowered s (old n) (new n)) where
  pub lowered_walk : (levels : ℕ) (c : Child P) → walk s new levels c ≡ walk s old levels c
  unfolding walk
  lowered_walk zero c = refl
  lowered_walk (suc below) c =
      ap (λ ms. Key c.page c.key ∷ Page c.page ∷ ms)
      (body_alike (walk s old below) (walk s new below) c (placed s below c.key (new c.page)) (lowered_walk below)
      ∙ by_lowered s (λ node. body (walk s old below) c (placed s below c.key node)) (old c.page) (new c.page) (lowered c.page) (lowest_body s (walk s old below) below c (old c.page)))

-- ---- the way down the first children

lowest_first : {P E : Type 0} (s : Scale P E) (f : ℕ → Option ℕ) (node : Node P E) → below_first f (lowest s node) ≡ below_first f node
lowest_first s f (Leaf es) = refl
lowest_first s f (Inner []) = refl
lowest_first s f (Inner (c ∷ cs)) = refl
lowest_first s f (Broken rule) = refl

first_alike : {P E : Type 0} (f g : ℕ → Option ℕ) (node : Node P E) → ((n : ℕ) → g n ≡ f n) → below_first g node ≡ below_first f node
first_alike f g (Leaf es) h = refl
first_alike f g (Inner []) h = refl
first_alike f g (Inner (c ∷ cs)) h = h c.page
first_alike f g (Broken rule) h = refl

lowest_along : {P E : Type 0} (s : Scale P E) (f : ℕ → Marks P E) (node : Node P E) → along_first f (lowest s node) ≡ along_first f node
lowest_along s f (Leaf es) = refl
lowest_along s f (Inner []) = refl
lowest_along s f (Inner (c ∷ cs)) = refl
lowest_along s f (Broken rule) = refl

along_alike : {P E : Type 0} (f g : ℕ → Marks P E) (node : Node P E) → ((n : ℕ) → g n ≡ f n) → along_first g node ≡ along_first f node
along_alike f g (Leaf es) h = refl
along_alike f g (Inner []) h = refl
along_alike f g (Inner (c ∷ cs)) h = h c.page
along_alike f g (Broken rule) h = refl

module _ {P E : Type 0} (s : Scale P E) (old new : ℕ → Node P E) (lowered : (n : ℕ) → IsLowered s (old n) (new n)) where
  lowered_levels : (most page : ℕ) → levels_of new most page ≡ levels_of old most page
  unfolding levels_of
  lowered_levels zero page = refl
  lowered_levels (suc most) page =
      ap one_more (first_alike (levels_of old most) (levels_of new most) (new page) (lowered_levels most)
      ∙ by_lowered s (below_first (levels_of old most)) (old page) (new page) (lowered page) (lowest_first s (levels_of old most) (old page)))

  pub lowered_path : (most page : ℕ) → first_path new most page ≡ first_path old most page
  unfolding first_path
  lowered_path zero page = refl
  lowered_path (suc most) page =
      ap (λ ms. Page page ∷ ms) (along_alike (first_path old most) (first_path new most) (new page) (lowered_path most)
      ∙ by_lowered s (along_first (first_path old most)) (old page) (new page) (lowered page) (lowest_along s (first_path old most) (old page)))

  lowered_at : (o : Option ℕ) → at_levels s new o ≡ at_levels s old o
  lowered_at (Some levels) = lowered_walk s old new lowered levels (top s)
  lowered_at None = lowered_path 8 no_page

  lowered_whole : whole s new ≡ whole s old
  lowered_whole = ap (at_levels s new) (lowered_levels 8 no_page) ∙ lowered_at (levels_of old 8 no_page)

-- ---- what a root spells

root_lowered : {P E : Type 0} (s : Scale P E) (old new : ℕ → Node P E) (root after : Node P E) → ((n : ℕ) → IsLowered s (old n) (new n)) → IsLowered s root after → (n : ℕ) → IsLowered s (with_root root old n) (with_root after new n)
root_lowered s old new root after lowered top n = by (n == no_page)
  where
    by : (b : Bool) → IsLowered s (if b then root else old n) (if b then after else new n)
    by true = top
    by false = lowered n

tree_alike : {P E : Type 0} (s : Scale P E) (old new : ℕ → Node P E) (root : Node P E) → ((n : ℕ) → IsLowered s (old n) (new n)) → tree_of s new root ≡ tree_of s old root
tree_alike s old new (Leaf []) h = refl
tree_alike s old new (Leaf (e ∷ es)) h = lowered_whole s (with_root (Leaf (e ∷ es)) old) (with_root (Leaf (e ∷ es)) new) (root_lowered s old new (Leaf (e ∷ es)) (Leaf (e ∷ es)) h (inl refl))
tree_alike s old new (Inner cs) h = lowered_whole s (with_root (Inner cs) old) (with_root (Inner cs) new) (root_lowered s old new (Inner cs) (Inner cs) h (inl refl))
tree_alike s old new (Broken rule) h = lowered_whole s (with_root (Broken rule) old) (with_root (Broken rule) new) (root_lowered s old new (Broken rule) (Broken rule) h (inl refl))

tree_lowest : {P E : Type 0} (s : Scale P E) (old new : ℕ → Node P E) (root : Node P E) → ((n : ℕ) → IsLowered s (old n) (new n)) → tree_of s new (lowest s root) ≡ tree_of s old root
tree_lowest s old new (Leaf es) h = tree_alike s old new (Leaf es) h
tree_lowest s old new (Inner cs) h = lowered_whole s (with_root (Inner cs) old) (with_root (Inner (under s.least cs)) new) (root_lowered s old new (Inner cs) (Inner (under s.least cs)) h (inr refl))
tree_lowest s old new (Broken rule) h = tree_alike s old new (Broken rule) h

module _ {P E : Type 0} (s : Scale P E) (old new : ℕ → Node P E) (root after : Node P E) (lowered : (n : ℕ) → IsLowered s (old n) (new n)) where
  tree_lowered : IsLowered s root after → tree_of s new after ≡ tree_of s old root
  tree_lowered (inl e) = ap (tree_of s new) e ∙ tree_alike s old new root lowered
  tree_lowered (inr e) = ap (tree_of s new) e ∙ tree_lowest s old new root lowered

  pub spells_lowered : IsLowered s root after → spells s new after ≡ spells s old root
  unfolding spells
  spells_lowered h = ap (judge s s.least) (tree_lowered h)

  pub footprint_lowered : IsLowered s root after → (n : ℕ) → footprint s new after n ≡ footprint s old root n
  unfolding footprint
  footprint_lowered h n = ap (λ ms. if n == no_page then 0 else times n ms) (tree_lowered h)
