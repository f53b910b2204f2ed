-- The way down the first children, which tells the number of levels.
use Rattle.std.proofs.Common.{◌≡◌, inl, inr, refl, sym, ap, ◌∙◌, subst, ℕ, zero, suc, [], ◌∷◌, Option, Some, None, Result, Ok, Err, arith}
use Rattle.std.specs.Prelude.{slice_get}
use Rattle.jfs_disk.specs.declared.disk.Fault.{Fault}
use Rattle.jfs_bits.specs.declared.rule.Rule.{Rule}
use Rattle.jfs_bits.specs.declared.rule.Rule.TheVariants as rules
use Rattle.jfs_tree.specs.Walk.{Child, Node, Leaf, Inner, Broken, Page, Marks, Scale, IsOrder}
use Rattle.jfs_tree.specs.Spells.{one_more, below_first, levels_of, along_first, first_path}
use Rattle.jfs_tree.specs.Call.{CarriesFault}
use Rattle.jfs_ranges.specs.declared.view.ViewError.TheVariants as view
use Rattle.jfs_tree.specs.Walking.{Meets, Counts, IsBroken, Opens, rows_in, children_in, leaf_shown, page_shown, others_shown, at_first, first_shown}
use Rattle.jfs_tree.specs.declared.form.TreeError.{TreeError}
use Rattle.jfs_tree.specs.declared.form.TreeError.TheVariants.{View, Bad, Memory}
use Rattle.jfs_tree.specs.declared.walk_read.Shape.TheVariants as shape
use Rattle.jfs_tree.proofs.WalkSteps.{page_fails, leaf_met, inner_stops, inner_goes}

some_same : {X : Type 0} (a b : X) → Some a ≡ Some b → a ≡ b
some_same a b h = cc

-- an error without a fault is one of any call
pub same_fault : (T X : Type 0) (e : TreeError) (n : Fault) → CarriesFault {T = T} n n (Err e) → CarriesFault {T = X} n n (Err e)
same_fault T X (View (view.Read fault)) n h = h
same_fault T X (View view.Memory) n h = h
same_fault T X (Bad page rule) n h = h
same_fault T X Memory n h = h

-- past the last level
pub past_last : {P E V : Type 0} (s : Scale P E) (page : V → ℕ → V → Type 0) (row : V → ℕ → E → V → Type 0) (nodes : ℕ → Node P E) (most n : ℕ) (low : P) (v : V) → most ≡ 0
    → Meets s page row low v (first_shown s nodes most n) (Err (Bad n rules.Deep)) v
unfolding levels_of first_path
past_last s page row nodes most n low v z = subst (λ k. Meets s page row low v (first_shown s nodes k n) (Err (Bad n rules.Deep)) v) (sym z) (refl, refl)

broken_first : {P E : Type 0} (f : ℕ → Option ℕ) (node : Node P E) (rule : Rule) → IsBroken node rule → below_first f node ≡ Some 0
broken_first f node rule (inl e) = rw e refl
broken_first f node rule (inr (d, inl e)) = rw e refl
broken_first f node rule (inr (d, inr e)) = rw e refl

leaf_first : {P E : Type 0} (f : ℕ → Option ℕ) (node : Node P E) (count : ℕ) → Counts node (shape.Leaf count) → below_first f node ≡ Some 0
leaf_first f (Leaf es) count h = refl
leaf_first f (Inner cs) count h = absurd (let a = h.0 in let b = h.1 in omega (arith, a, b))
leaf_first f (Broken rule) count h = refl

inner_first : {P E : Type 0} (f : ℕ → Option ℕ) (node : Node P E) (c : Child P) → slice_get (children_in node) 0 ≡ Some c → below_first f node ≡ f c.page
inner_first f (Leaf es) c at = cc
inner_first f (Inner []) c at = cc
inner_first {P} f (Inner (d ∷ ds)) c at = ap (λ (t : Child P). f t.page) (some_same d c at)
inner_first f (Broken rule) c at = cc

inner_along : {P E : Type 0} (f : ℕ → Marks P E) (node : Node P E) (c : Child P) → slice_get (children_in node) 0 ≡ Some c → along_first f node ≡ f c.page
inner_along f (Leaf es) c at = cc
inner_along f (Inner []) c at = cc
inner_along {P} f (Inner (d ∷ ds)) c at = ap (λ (t : Child P). f t.page) (some_same d c at)
inner_along f (Broken rule) c at = cc

-- so many levels below a page, where its first child has them
pub deeper : {P E : Type 0} (nodes : ℕ → Node P E) (most more n : ℕ) (node : Node P E) (o : Option ℕ) → most ≡ suc more → nodes n ≡ node → below_first (levels_of nodes more) node ≡ o → levels_of nodes most n ≡ one_more o
unfolding levels_of
deeper nodes most more n node o m is e = ap (λ k. levels_of nodes k n) m ∙ ap one_more (ap (below_first (levels_of nodes more)) is ∙ e)

pub leaf_levels : {P E : Type 0} (nodes : ℕ → Node P E) (most more n count : ℕ) (node : Node P E) → most ≡ suc more → nodes n ≡ node → Counts node (shape.Leaf count) → levels_of nodes most n ≡ Some 1
leaf_levels nodes most more n count node m is h = deeper nodes most more n node (Some 0) m is (leaf_first (levels_of nodes more) node count h)

pub inner_levels : {P E : Type 0} (nodes : ℕ → Node P E) (most more n : ℕ) (node : Node P E) (c : Child P) (o : Option ℕ) → most ≡ suc more → nodes n ≡ node → slice_get (children_in node) 0 ≡ Some c
    → levels_of nodes more c.page ≡ o → levels_of nodes most n ≡ one_more o
inner_levels nodes most more n node c o m is at e = deeper nodes most more n node o m is (inner_first (levels_of nodes more) node c at ∙ e)

no_less : (o : Option ℕ) → one_more o ≡ Some 0 → ⊥
no_less None h = cc
no_less (Some k) h = absurd (let e = some_same (suc k) 0 h in omega (arith, e))

pub never_none : {P E : Type 0} (nodes : ℕ → Node P E) (most n : ℕ) → levels_of nodes most n ≡ Some 0 → ⊥
unfolding levels_of
never_none nodes zero n h = cc
never_none nodes (suc most) n h = no_less (below_first (levels_of nodes most) (nodes n)) h

module _ {P E V : Type 0} (s : Scale P E) (page : V → ℕ → V → Type 0) (row : V → ℕ → E → V → Type 0) (nodes : ℕ → Node P E) (n : ℕ) (node : Node P E) (is : nodes n ≡ node) (key : P) (least : key ≡ s.least) (v u : V) where
  -- what a page shows, by the number of levels
  by_levels : (most : ℕ) (o : Option ℕ) (r : Result P TreeError) (w : V) → levels_of nodes most n ≡ o → Meets s page row key v (at_first s nodes most n o) r w → Meets s page row key v (first_shown s nodes most n) r w
  by_levels most o r w e h = subst (λ p. Meets s page row key v (at_first s nodes most n p) r w) (sym e) h

  shown_at : (most below : ℕ) (r : Result P TreeError) (w : V) → levels_of nodes most n ≡ Some (suc below) → Meets s page row key v (page_shown s nodes below n key) r w → Meets s page row key v (first_shown s nodes most n) r w
  shown_at most below r w e h = by_levels most (Some (suc below)) r w e (subst (λ k. Meets s page row key v (page_shown s nodes below n k) r w) least h)

  unread : (most more : ℕ) (o : Option ℕ) → levels_of nodes most n ≡ o → most ≡ suc more → (e : TreeError) → ((rest : Marks P E) → Meets s page row key v (Page n ∷ rest) (Err e) u) → Meets s page row key v (at_first s nodes most n o) (Err e) u
  unfolding first_path
  unread most more None l m e h = subst (λ k. Meets s page row key v (first_path nodes k n) (Err e) u) (sym m) (h (along_first (first_path nodes more) (nodes n)))
  unread most more (Some zero) l m e h = absurd (never_none nodes most n l)
  unread most more (Some (suc below)) l m e h = h _

  pub first_fails : (most more : ℕ) (e : TreeError) → most ≡ suc more → Opens page n node v (Err e) u → Meets s page row key v (first_shown s nodes most n) (Err e) u
  first_fails most more (View e) m h = by_levels most (levels_of nodes most n) (Err (View e)) u refl (unread most more (levels_of nodes most n) refl m (View e) (λ rest. inl (e, refl, h)))
  first_fails most more (Bad bad rule) m h =
      shown_at most 0 (Err (Bad bad rule)) u (deeper nodes most more n node (Some 0) m is (broken_first (levels_of nodes more) node rule h.2)) (page_fails s page row nodes n node is key v u 0 (Bad bad rule) h)
  first_fails most more Memory m h = absurd h

  pub first_leaf : (most more count : ℕ) (r : Result P TreeError) (w : V) → most ≡ suc more → Counts node (shape.Leaf count) → page v n u → Meets s page row key u (leaf_shown s n key (rows_in node)) r w
      → Meets s page row key v (first_shown s nodes most n) r w
  first_leaf most more count r w m h sees met = shown_at most 0 r w (leaf_levels nodes most more n count node m is h) (leaf_met s page row nodes n node is key v u count r w h sees met)

  first_stops_at : (o : Option ℕ) (most more : ℕ) (c : Child P) (e : TreeError) (w : V) → IsOrder s → levels_of nodes more c.page ≡ o → most ≡ suc more → slice_get (children_in node) 0 ≡ Some c → page v n u
      → Meets s page row key u (at_first s nodes more c.page o) (Err e) w → Meets s page row key v (at_first s nodes most n (one_more o)) (Err e) w
  unfolding first_path
  first_stops_at None most more c e w o l m at sees h =
      subst (λ k. Meets s page row key v (first_path nodes k n) (Err e) w) (sym m)
      (subst (λ ms. Meets s page row key v (Page n ∷ ms) (Err e) w) (sym (ap (along_first (first_path nodes more)) is ∙ inner_along (first_path nodes more) node c at)) (inr (u, sees, h)))
  first_stops_at (Some zero) most more c e w o l m at sees h = absurd (never_none nodes more c.page l)
  first_stops_at (Some (suc below)) most more c e w o l m at sees h =
      subst (λ k. Meets s page row key v (page_shown s nodes (suc below) n k) (Err e) w) least
      (inner_stops s page row nodes n node is key v u o (suc below) below c e w refl at sees (subst (λ k. Meets s page row key u (page_shown s nodes below c.page k) (Err e) w) (sym least) h))

  pub first_stops : (most more : ℕ) (c : Child P) (e : TreeError) (w : V) → IsOrder s → most ≡ suc more → slice_get (children_in node) 0 ≡ Some c → page v n u
      → Meets s page row key u (first_shown s nodes more c.page) (Err e) w → Meets s page row key v (first_shown s nodes most n) (Err e) w
  first_stops most more c e w o m at sees h =
      by_levels most (one_more (levels_of nodes more c.page)) (Err e) w (inner_levels nodes most more n node c (levels_of nodes more c.page) m is at refl)
      (first_stops_at (levels_of nodes more c.page) most more c e w o refl m at sees h)

  pub first_goes : (most more below : ℕ) (c : Child P) (m : P) (x : V) (r : Result P TreeError) (w : V) → IsOrder s → most ≡ suc more → slice_get (children_in node) 0 ≡ Some c → page v n u → levels_of nodes more c.page ≡ Some (suc below)
      → Meets s page row key u (first_shown s nodes more c.page) (Ok m) x → Meets s page row m x (others_shown s nodes below (children_in node)) r w → Meets s page row key v (first_shown s nodes most n) r w
  first_goes most more below c m x r w o up at sees l h k =
      shown_at most (suc below) r w (inner_levels nodes most more n node c (Some (suc below)) up is at l)
      (inner_goes s page row nodes n node is key v u o (suc below) below c m x r w refl at sees
      (subst (λ k. Meets s page row key u (page_shown s nodes below c.page k) (Ok m) x) (sym least) (subst (λ p. Meets s page row key u (at_first s nodes more c.page p) (Ok m) x) l h)) k)
