-- A root that spells nothing has no pages.
use Rattle.std.proofs.Common.{◌≡◌, inl, inr, refl, sym, ap, ◌∙◌, subst, ℕ, zero, suc, ◌+◌, Bool, true, false, ◌==◌, if◌then◌else◌, List, [], ◌∷◌, ◌++◌, Option, Some, Ok}
use Rattle.std.specs.List.{flat_map}
use Rattle.std.proofs.lemmas.Bool.{cases_eq, eq-eqb, ne_eqb}
use Rattle.jfs_bits.specs.declared.rule.Rule.TheVariants as rules
use Rattle.jfs_tree.specs.Walk.{Child, Node, Leaf, Inner, Broken, Marks, Scale, Rises, IsOrder, rows_of, placed, body, walk}
use Rattle.jfs_tree.specs.Spells.{no_page, spells, footprint, with_root, top}
use Rattle.jfs_tree.specs.Edit.{IsCons}
use Rattle.jfs_tree.proofs.Frame.{rows-append}
use Rattle.jfs_tree.proofs.Rising.{rises_cut}
use Rattle.jfs_tree.proofs.Spelled.{stands}

some_more : {E : Type 0} (a b : List E) → IsCons a → IsCons (a ++ b)
some_more [] b h = absurd h
some_more (e ∷ es) b h = tt

body_rows : {P E : Type 0} (s : Scale P E) → IsOrder s → (f : Child P → Marks P E) (c : Child P) (below : ℕ) (node : Node P E) (low : P) (high : Option P) → ((d : Child P) (low : P) (high : Option P) → Rises s low (f d) high → IsCons (rows_of (f d)))
    → Rises s low (body f c (placed s below c.key node)) high → IsCons (rows_of (body f c (placed s below c.key node)))
body_rows s o f c zero (Leaf []) low high h r = absurd r
body_rows {P} {E} s o f c zero (Leaf (e ∷ es)) low high h r = by (s.fits c.key e) r
  where
    by : (b : Bool) → Rises s low (body f c (if b then Leaf (e ∷ es) else Broken rules.Order)) high → IsCons (rows_of (body f c (if b then Leaf (e ∷ es) else Broken rules.Order)))
    by true r = tt
    by false r = absurd r
body_rows s o f c zero (Inner cs) low high h r = absurd r
body_rows s o f c zero (Broken rule) low high h r = absurd r
body_rows s o f c (suc below) (Leaf es) low high h r = absurd r
body_rows s o f c (suc below) (Inner []) low high h r = absurd r
body_rows {P} s o f c (suc below) (Inner (d ∷ ds)) low high h r =
    let u : Child P = record { key = c.key; page = d.page } in
    let t = rises_cut s o low (f u) (flat_map f ds) high r in
    subst IsCons (sym (rows-append (f u) (flat_map f ds))) (some_more (rows_of (f u)) (rows_of (flat_map f ds)) (h u low (Some t.0) t.1))
body_rows s o f c (suc below) (Broken rule) low high h r = absurd r

-- each part that rises has an entry
walk_rows : {P E : Type 0} (s : Scale P E) → IsOrder s → (nodes : ℕ → Node P E) (levels : ℕ) (c : Child P) (low : P) (high : Option P) → Rises s low (walk s nodes levels c) high → IsCons (rows_of (walk s nodes levels c))
unfolding walk
walk_rows s o nodes zero c low high r = absurd r
walk_rows s o nodes (suc below) c low high r = body_rows s o (walk s nodes below) c below (nodes c.page) c.key high (walk_rows s o nodes below) r.1

leaf_foot : {P E : Type 0} (s : Scale P E) (pages : ℕ → Node P E) (n : ℕ) → footprint s pages (Leaf []) n ≡ 0
unfolding footprint
leaf_foot s pages n = elim (cases_eq n no_page) [
  | inl e ↦ ap (λ b. if b then 0 else (if no_page == n then 1 else 0) + 0) (eq-eqb n no_page e)
  | inr other ↦ rw (ne_eqb n no_page other, ne_eqb no_page n (λ e. other (sym e))) refl
]

pub bare_tree : {P E : Type 0} (s : Scale P E) → IsOrder s → (pages : ℕ → Node P E) (root : Node P E) → spells s pages root ≡ Ok [] → (n : ℕ) → footprint s pages root n ≡ 0
bare_tree {P} {E} s o pages root spelled n = elim (stands s pages root [] spelled) [
  | inl e ↦ ap (λ r. footprint s pages r n) e.0 ∙ leaf_foot s pages n
  | inr st ↦ absurd (subst IsCons st.rows (walk_rows s o (with_root root pages) st.levels (top s) s.least _ st.rises))
]
