-- A walk from the root on.
use Rattle.std.proofs.Common.{◌≡◌, inl, inr, refl, sym, ap, ◌∙◌, subst, ℕ, zero, suc, true, List, [], ◌∷◌, map, length, Option, Some, None, Result, Ok, Err, arith}
use Rattle.std.specs.Prelude.{IfErr, OnOk, slice_get}
use Rattle.jfs_bits.specs.declared.rule.Rule.{Rule}
use Rattle.jfs_bits.specs.declared.rule.Rule.TheVariants as rules
use Rattle.jfs_tree.specs.Walk.{Child, Node, Leaf, Inner, Broken, Row, Scale, IsOrder, rows_of, walk}
use Rattle.jfs_tree.specs.Spells.{no_page, with_root, levels_of, at_levels, whole, tree_of, spells}
use Rattle.jfs_tree.specs.Walking.{Meets, Shows, IsBroken, NamesFirst, ended, rows_in, children_in, others_shown, at_first, first_shown}
use Rattle.jfs_tree.specs.declared.form.TreeError.{TreeError}
use Rattle.jfs_tree.specs.declared.form.TreeError.TheVariants.{View, Bad, Memory}
use Rattle.jfs_tree.specs.declared.walk_read.Shape.TheVariants as shape
use Rattle.jfs_tree.proofs.Walked.{met_list, met_bad}
use Rattle.jfs_tree.proofs.WalkSteps.{leaf_goes}
use Rattle.jfs_tree.proofs.WalkFirst.{first_fails, first_leaf, first_stops, first_goes, never_none}

-- ---- what a walk tells of a root

pub tells_list : {P E V T : Type 0} (s : Scale P E) (page : V → ℕ → V → Type 0) (row : V → ℕ → E → V → Type 0) (v : V) (pages : ℕ → Node P E) (root : Node P E) (low end : P) (r : Result T TreeError) (w : V)
    → low ≡ s.least → Meets s page row low v (tree_of s pages root) (ended end r) w → OnOk r (spells s pages root ≡ Ok (rows_of (tree_of s pages root)))
unfolding spells
tells_list s page row v pages root low end (Ok it) w least h = met_list s page row s.least v (tree_of s pages root) end w (subst (λ p. Meets s page row p v (tree_of s pages root) (Ok end) w) least h)
tells_list s page row v pages root low end (Err e) w least h = tt

pub tells_bad : {P E V T : Type 0} (s : Scale P E) (page : V → ℕ → V → Type 0) (row : V → ℕ → E → V → Type 0) (v : V) (pages : ℕ → Node P E) (root : Node P E) (low end : P) (r : Result T TreeError) (w : V)
    → low ≡ s.least → Meets s page row low v (tree_of s pages root) (ended end r) w → IfErr r (NamesFirst s pages root)
unfolding spells
tells_bad s page row v pages root low end (Ok it) w least h = tt
tells_bad s page row v pages root low end (Err (View e)) w least h = tt
tells_bad s page row v pages root low end (Err (Bad n rule)) w least h = met_bad s page row s.least v (tree_of s pages root) n rule w (subst (λ p. Meets s page row p v (tree_of s pages root) (Err (Bad n rule)) w) least h)
tells_bad s page row v pages root low end (Err Memory) w least h = tt

-- ---- the root and all below it

tree_is : {P E : Type 0} (s : Scale P E) (pages : ℕ → Node P E) (root : Node P E) → (root ≡ Leaf [] → ⊥) → tree_of s pages root ≡ whole s (with_root root pages)
tree_is s pages (Leaf []) some = absurd (some refl)
tree_is s pages (Leaf (e ∷ es)) some = refl
tree_is s pages (Inner cs) some = refl
tree_is s pages (Broken rule) some = refl

module _ {P E V : Type 0} (s : Scale P E) (o : IsOrder s) (page : V → ℕ → V → Type 0) (row : V → ℕ → E → V → Type 0) (pages : ℕ → Node P E) (root : Node P E) (low : P) (least : low ≡ s.least) (v u : V) (sees : page v no_page u) where
  whole_at : (levels : Option ℕ) (r : Result P TreeError) (w : V) → levels_of (with_root root pages) 8 no_page ≡ levels → Meets s page row low v (at_first s (with_root root pages) 8 no_page levels) r w
      → Meets s page row low v (at_levels s (with_root root pages) levels) r w
  unfolding walk
  whole_at None r w l h = h
  whole_at (Some zero) r w l h = absurd (never_none (with_root root pages) 8 no_page l)
  whole_at (Some (suc below)) r w l h =
      inl (subst (λ p. s.le low p ≡ true) least (o.refl_le low), subst (λ p. Meets s page row p v (at_first s (with_root root pages) 8 no_page (Some (suc below))) r w) least h)

  met_whole : (r : Result P TreeError) (w : V) → (root ≡ Leaf [] → ⊥) → Meets s page row low v (first_shown s (with_root root pages) 8 no_page) r w → Meets s page row low v (tree_of s pages root) r w
  met_whole r w some h = subst (λ ms. Meets s page row low v ms r w) (sym (tree_is s pages root some)) (whole_at (levels_of (with_root root pages) 8 no_page) r w refl h)

  -- a root that breaks a rule
  pub root_fails : (rule : Rule) → IsBroken root rule → (root ≡ Leaf [] → ⊥) → Meets s page row low v (tree_of s pages root) (Err (Bad no_page rule)) u
  root_fails rule h some = met_whole (Err (Bad no_page rule)) u some (first_fails s page row (with_root root pages) no_page root refl low least v u 8 7 (Bad no_page rule) refl (sees, refl, h))

  -- a root that is an inner page, whose first child's part ends the walk
  pub root_stops : (c : Child P) (e : TreeError) (w : V) → (root ≡ Leaf [] → ⊥) → slice_get (children_in root) 0 ≡ Some c → Meets s page row low u (first_shown s (with_root root pages) 7 c.page) (Err e) w
      → Meets s page row low v (tree_of s pages root) (Err e) w
  root_stops c e w some at h = met_whole (Err e) w some (first_stops s page row (with_root root pages) no_page root refl low least v u 8 7 c e w o refl at sees h)

  -- and one whose other children are met behind it
  pub root_goes : (below : ℕ) (c : Child P) (m : P) (x : V) (r : Result P TreeError) (w : V) → (root ≡ Leaf [] → ⊥) → slice_get (children_in root) 0 ≡ Some c → levels_of (with_root root pages) 7 c.page ≡ Some (suc below)
      → Meets s page row low u (first_shown s (with_root root pages) 7 c.page) (Ok m) x → Meets s page row m x (others_shown s (with_root root pages) below (children_in root)) r w → Meets s page row low v (tree_of s pages root) r w
  root_goes below c m x r w some at l h k = met_whole r w some (first_goes s page row (with_root root pages) no_page root refl low least v u 8 7 below c m x r w o refl at sees l h k)

no_leaf : {P E : Type 0} (e : E) (es : List E) → (let m : Node P E = Leaf (e ∷ es) in m) ≡ Leaf [] → ⊥
no_leaf e es h = cc

leaf_root : {P E V : Type 0} (s : Scale P E) → IsOrder s → (page : V → ℕ → V → Type 0) (row : V → ℕ → E → V → Type 0) (pages : ℕ → Node P E) (low : P) (v u : V) (es : List E) (r : Result P TreeError) (w : V) → low ≡ s.least → page v no_page u
    → Meets s page row low u (map (Row no_page) es) r w → Meets s page row low v (tree_of s pages (Leaf es)) r w
leaf_root s o page row pages low v u [] r w least sees h = inr (u, sees, h)
leaf_root {P} s o page row pages low v u (e ∷ es) r w least sees h =
    met_whole s o page row pages (Leaf (e ∷ es)) low least v u sees r w (no_leaf {P = P} e es)
    (first_leaf s page row (with_root (Leaf (e ∷ es)) pages) no_page (Leaf (e ∷ es)) refl low least v u 8 7 (length (e ∷ es)) r w refl (refl, omega arith) sees
    (leaf_goes s page row no_page low u (e ∷ es) e r w refl (subst (λ p. s.fits p e ≡ true) (sym least) (o.fits_least e)) h))

-- a root that is a leaf
pub root_rows : {P E V : Type 0} (s : Scale P E) → IsOrder s → (page : V → ℕ → V → Type 0) (row : V → ℕ → E → V → Type 0) (pages : ℕ → Node P E) (root : Node P E) (low : P) (v u : V) (es : List E) (r : Result P TreeError) (w : V) → low ≡ s.least → page v no_page u
    → root ≡ Leaf es → Meets s page row low u (map (Row no_page) (rows_in root)) r w → Meets s page row low v (tree_of s pages root) r w
root_rows s o page row pages root low v u es r w least sees is h =
    subst (λ m. Meets s page row low v (tree_of s pages m) r w) (sym is) (leaf_root s o page row pages low v u es r w least sees (subst (λ m. Meets s page row low u (map (Row no_page) (rows_in m)) r w) is h))

-- a root that is an inner page with so many children
pub no_empty_leaf : {P E : Type 0} (root : Node P E) (c : Child P) → slice_get (children_in root) 0 ≡ Some c → root ≡ Leaf [] → ⊥
no_empty_leaf {P} root c at is = by (subst (λ m. slice_get (children_in m) 0 ≡ Some c) is at)
  where
    by : (let none : List (Child P) = [] in slice_get none 0) ≡ Some c → ⊥
    by h = cc

inner_empty : {P : Type 0} (cs : List (Child P)) → length cs ≡ 0 → cs ≡ []
inner_empty [] h = refl
inner_empty (c ∷ cs) h = absurd (omega (arith, h))

not_leaf : {P E : Type 0} → (let m : Node P E = Inner [] in m) ≡ Leaf [] → ⊥
not_leaf h = cc

broken_leaf : {P E : Type 0} (rule : Rule) → (let m : Node P E = Broken rule in m) ≡ Leaf [] → ⊥
broken_leaf rule h = cc

pub broken_root : {P E : Type 0} (root : Node P E) (rule : Rule) → root ≡ Broken rule → IsBroken root rule × (root ≡ Leaf [] → ⊥)
broken_root {P} {E} root rule is = (inl is, λ e. broken_leaf {P = P} {E = E} rule (sym is ∙ e))

pub empty_root : {P E : Type 0} (root : Node P E) (n : ℕ) → n ≡ 0 → Shows root (Ok (shape.Inner n)) → IsBroken root rules.Deep × (root ≡ Leaf [] → ⊥)
empty_root {P} {E} root n z h =
    let e = inner_empty h.0 (h.2 ∙ z) in
    let is = h.1 ∙ ap (λ (cs : List (Child P)). let m : Node P E = Inner cs in m) e in
    (inr (refl, inr is), λ l. not_leaf {P = P} {E = E} (sym is ∙ l))
