-- A directory whose root has no name spells none, and only such a one does.
use Rattle.std.proofs.Common.{◌≡◌, inl, inr, refl, sym, ap, ◌∙◌, subst, ℕ, zero, suc, Bool, true, false, ◌==◌, if◌then◌else◌, List, [], ◌∷◌, ◌++◌, length, Option, Some, None, Ok, Err, arith}
use Rattle.std.proofs.lemmas.Bool.Decides.{nat_tests}
use Rattle.std.specs.List.{flat_map}
use Rattle.jfs_bits.specs.declared.rule.Rule.{Rule}
use Rattle.jfs_bits.specs.declared.rule.Rule.TheVariants as rules
use Rattle.jfs_name.specs.declared.name.NameEntry.{NameEntry}
use Rattle.jfs_tree.specs.Walk.{Child, Node, Leaf, Inner, Broken, Marks, Scale, Rises, IsOrder, rows_of, placed, body, walk}
use Rattle.jfs_tree.specs.Spells.{spells, with_root, top}
use Rattle.jfs_tree.specs.Edit.{IsCons}
use Rattle.jfs_tree.proofs.Frame.{rows-append}
use Rattle.jfs_tree.proofs.Rising.{rises_cut}
use Rattle.jfs_tree.proofs.Spelled.{stands}
use Rattle.jfs_dtree.specs.Laws.{order}
use Rattle.jfs_dtree.specs.Node.{name_scale}
use Rattle.jfs_dtree.specs.Spells.{root_node, page_nodes, spells_names}
use Rattle.jfs_plain.specs.declared.refusal.Refusal.{Refusal}
use Rattle.jfs_plain.specs.declared.refusal.Refusal.TheVariants.{NotEmpty}
use Rattle.jfs_loss.specs.way.specs.declared.object.Held.{Held}
use Rattle.jfs_unlink.specs.Call.{bare_at}

-- ---- each part of a tree that rises has an entry

some_more : {E : Type 0} (a b : List E) → IsCons a → IsCons (a ++ b)
some_more [] b h = absurd h
some_more (e ∷ es) b h = tt

body_rows : {P E : Type 0} (s : Scale P E) → IsOrder s → (f : Child P → Marks P E) (c : Child P) (below : ℕ) (node : Node P E) (low : P) (high : Option P) → ((d : Child P) (low : P) (high : Option P) → Rises s low (f d) high → IsCons (rows_of (f d)))
    → Rises s low (body f c (placed s below c.key node)) high → IsCons (rows_of (body f c (placed s below c.key node)))
body_rows s o f c zero (Leaf []) low high h r = absurd r
body_rows {P} {E} s o f c zero (Leaf (e ∷ es)) low high h r = by (s.fits c.key e) r
  where
    by : (b : Bool) → Rises s low (body f c (if b then Leaf (e ∷ es) else Broken rules.Order)) high → IsCons (rows_of (body f c (if b then Leaf (e ∷ es) else Broken rules.Order)))
    by true r = tt
    by false r = absurd r
body_rows s o f c zero (Inner cs) low high h r = absurd r
body_rows s o f c zero (Broken rule) low high h r = absurd r
body_rows s o f c (suc below) (Leaf es) low high h r = absurd r
body_rows s o f c (suc below) (Inner []) low high h r = absurd r
body_rows {P} s o f c (suc below) (Inner (d ∷ ds)) low high h r =
    let u : Child P = record { key = c.key; page = d.page } in
    let t = rises_cut s o low (f u) (flat_map f ds) high r in
    subst IsCons (sym (rows-append (f u) (flat_map f ds))) (some_more (rows_of (f u)) (rows_of (flat_map f ds)) (h u low (Some t.0) t.1))
body_rows s o f c (suc below) (Broken rule) low high h r = absurd r

walk_rows : {P E : Type 0} (s : Scale P E) → IsOrder s → (nodes : ℕ → Node P E) (levels : ℕ) (c : Child P) (low : P) (high : Option P) → Rises s low (walk s nodes levels c) high → IsCons (rows_of (walk s nodes levels c))
unfolding walk
walk_rows s o nodes zero c low high r = absurd r
walk_rows s o nodes (suc below) c low high r = body_rows s o (walk s nodes below) c below (nodes c.page) c.key high (walk_rows s o nodes below) r.1

broken_walk : {P E : Type 0} (s : Scale P E) (pages : ℕ → Node P E) (rule : Rule) (levels : ℕ) → Rises s s.least (walk s (with_root (Broken rule) pages) levels (top s)) None → ⊥
unfolding walk
broken_walk s pages rule zero r = r
broken_walk s pages rule (suc zero) r = r.1
broken_walk s pages rule (suc (suc below)) r = r.1

module _ (blocks : ℕ) (pages : ℕ → List ℕ) where
  -- a root that spells no name has none
  only_bare : (root : Node (List ℕ) NameEntry) → spells name_scale (page_nodes blocks pages) root ≡ Ok [] → root ≡ Leaf []
  only_bare root h = elim (stands name_scale (page_nodes blocks pages) root [] h) [
    | inl e ↦ e.0
    | inr st ↦ absurd (subst IsCons st.rows (walk_rows name_scale order (with_root root (page_nodes blocks pages)) st.levels (top name_scale) name_scale.least _ st.rises))
  ]

  -- one that breaks a rule spells nothing
  broken_none : (rule : Rule) (es : List NameEntry) → spells name_scale (page_nodes blocks pages) (Broken rule) ≡ Ok es → ⊥
  broken_none rule es h = elim (stands name_scale (page_nodes blocks pages) (Broken rule) es h) [
    | inl e ↦ is_leaf e.0
    | inr st ↦ broken_walk name_scale (page_nodes blocks pages) rule st.levels st.rises
  ]
    where
      broken : Node (List ℕ) NameEntry
      broken = Broken rule

      is_leaf : broken ≡ Leaf [] → ⊥
      is_leaf h = cc (h)

  bare_spells : spells name_scale (page_nodes blocks pages) (Leaf []) ≡ Ok []
  unfolding spells
  bare_spells = refl

  module _ (at : Held) (root : List ℕ) where
    pub bare_spelled : bare_at at (root_node blocks root) ≡ Ok at → spells_names blocks pages root ≡ Ok []
    bare_spelled h = ap (spells name_scale (page_nodes blocks pages)) (by (root_node blocks root) h) ∙ bare_spells
      where
        by : (node : Node (List ℕ) NameEntry) → bare_at at node ≡ Ok at → node ≡ Leaf []
        by (Leaf []) h = refl
        by (Leaf (e ∷ es)) h = absurd (cc (h))
        by (Inner cs) h = absurd (cc (h))
        by (Broken rule) h = absurd (cc (h))

    -- on a directory that spells names a refusal is that it has one
    module _ (es : List NameEntry) (spelled : spells_names blocks pages root ≡ Ok es) (why : Refusal) (kept : bare_at at (root_node blocks root) ≡ Err why) where
      pub is_full : why ≡ NotEmpty
      is_full = by (root_node blocks root) kept spelled
        where
          by : (node : Node (List ℕ) NameEntry) → bare_at at node ≡ Err why → spells name_scale (page_nodes blocks pages) node ≡ Ok es → why ≡ NotEmpty
          by (Leaf []) h g = absurd (cc (h))
          by (Leaf (e ∷ rest)) h g = cc (h)
          by (Inner cs) h g = cc (h)
          by (Broken rule) h g = absurd (broken_none rule es g)

      pub has_some : (length es == 0) ≡ false
      has_some = by es spelled
        where
          more : (k : ℕ) → (suc k == 0) ≡ false
          more k = grind (arith, nat_tests)

          no : bare_at at (Leaf []) ≡ Err why → ⊥
          no h = cc (h)

          by : (xs : List NameEntry) → spells_names blocks pages root ≡ Ok xs → (length xs == 0) ≡ false
          by [] g = absurd (no (ap (bare_at at) (sym (only_bare (root_node blocks root) g)) ∙ kept))
          by (x ∷ xs) g = more (length xs)
