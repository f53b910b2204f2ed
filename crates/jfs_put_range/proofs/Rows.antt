-- The entries of a part of a tree that rises.
use Rattle.std.proofs.Common.{◌≡◌, ◌<◌, refl, sym, ap, subst, ℕ, zero, suc, ◌==◌, ◌||◌, Bool, true, false, if◌then◌else◌, List, [], ◌∷◌, ◌++◌, Option, Some, arith}
use Rattle.std.specs.List.{flat_map}
use Rattle.std.proofs.lemmas.Bool.{leb-true}
use Rattle.std.proofs.lemmas.Bool.Decides.{nat_tests}
use Rattle.jfs_bits.specs.declared.extent.Xad.{Xad}
use Rattle.jfs_bits.specs.declared.rule.Rule.TheVariants as rules
use Rattle.jfs_tree.specs.Walk.{Child, Node, Leaf, Inner, Broken, Page, Key, Row, Fault, Marks, Rises, rows_of, placed, body, walk}
use Rattle.jfs_tree.proofs.Frame.{rows-append}
use Rattle.jfs_tree.proofs.Keys.{rises_up}
use Rattle.jfs_tree.proofs.Rising.{rises_cut}
use Rattle.jfs_xtpage.specs.Page.{end_of, rises_from}
use Rattle.jfs_xtree.specs.Laws.{order}
use Rattle.jfs_xtree.specs.Node.{xt_scale, BeginsAt}
use Rattle.jfs_xtree.specs.Writing.{AllTo, with_all_written}
use Rattle.jfs_xtree.proofs.Pages.{rises_more, rises_weaker}
use Rattle.jfs_written.specs.Range.{with_range}
use Rattle.jfs_written.proofs.Sides.{parts_none}

-- they end at or before the upper end
pub rows_to : (low : ℕ) (ms : Marks ℕ Xad) (mid : ℕ) → Rises xt_scale low ms (Some mid) → AllTo mid (rows_of ms)
rows_to low [] mid r = tt
rows_to low (Page n ∷ ms) mid r = rows_to low ms mid r
rows_to low (Key n k ∷ ms) mid r = rows_to k ms mid r.1
rows_to low (Row n e ∷ ms) mid r = (leb-true (end_of e) mid (rises_up xt_scale order (end_of e) ms mid r.1), rows_to (end_of e) ms mid r.1)
rows_to low (Fault n f ∷ ms) mid r = absurd r

-- and rise from the lower one
pub rows_rise : (low : ℕ) (ms : Marks ℕ Xad) (high : Option ℕ) → Rises xt_scale low ms high → rises_from low (rows_of ms) ≡ true
rows_rise low [] high r = refl
rows_rise low (Page n ∷ ms) high r = rows_rise low ms high r
rows_rise low (Key n k ∷ ms) high r = rises_weaker (rows_of ms) k low (leb-true low k r.0) (rows_rise k ms high r.1)
rows_rise low (Row n e ∷ ms) high r = rises_more low e (rows_of ms) (leb-true low e.offset r.0) (rows_rise (end_of e) ms high r.1)
rows_rise low (Fault n f ∷ ms) high r = absurd r

pub begins_more : (k : ℕ) (a b : List Xad) → BeginsAt k a → BeginsAt k (a ++ b)
begins_more k [] b h = absurd h
begins_more k (x ∷ a) b h = h

-- ---- below a key that isn't 0 the first entry begins at the key

fits_begins : (key offset : ℕ) → 0 < key → (key == 0 || key == offset) ≡ true → key ≡ offset
fits_begins key offset p e = grind (arith, nat_tests)

leaf_begins : (f : Child ℕ → Marks ℕ Xad) (c : Child ℕ) (es : List Xad) (high : Option ℕ) → 0 < c.key → Rises xt_scale c.key (body f c (placed xt_scale zero c.key (Leaf es))) high → BeginsAt c.key (rows_of (body f c (placed xt_scale zero c.key (Leaf es))))
leaf_begins f c [] high p r = absurd r
leaf_begins f c (e ∷ es) high p r = by (xt_scale.fits c.key e) refl r
  where
    by : (b : Bool) → xt_scale.fits c.key e ≡ b → Rises xt_scale c.key (body f c (if b then Leaf (e ∷ es) else Broken rules.Order)) high → BeginsAt c.key (rows_of (body f c (if b then Leaf (e ∷ es) else Broken rules.Order)))
    by true is r = fits_begins c.key e.offset p is
    by false is r = absurd r

body_begins : (f : Child ℕ → Marks ℕ Xad) (c : Child ℕ) (below : ℕ) (node : Node ℕ Xad) (high : Option ℕ) → 0 < c.key
    → ((d : Child ℕ) (low : ℕ) (m : Option ℕ) → 0 < d.key → Rises xt_scale low (f d) m → BeginsAt d.key (rows_of (f d)))
    → Rises xt_scale c.key (body f c (placed xt_scale below c.key node)) high → BeginsAt c.key (rows_of (body f c (placed xt_scale below c.key node)))
body_begins f c zero (Leaf es) high p h r = leaf_begins f c es high p r
body_begins f c zero (Inner cs) high p h r = absurd r
body_begins f c zero (Broken rule) high p h r = absurd r
body_begins f c (suc below) (Leaf es) high p h r = absurd r
body_begins f c (suc below) (Inner []) high p h r = absurd r
body_begins f c (suc below) (Inner (d ∷ ds)) high p h r =
    let u : Child ℕ = record { key = c.key; page = d.page } in
    let t = rises_cut xt_scale order c.key (f u) (flat_map f ds) high r in
    subst (BeginsAt c.key) (sym (rows-append (f u) (flat_map f ds))) (begins_more c.key (rows_of (f u)) (rows_of (flat_map f ds)) (h u c.key (Some t.0) p t.1))
body_begins f c (suc below) (Broken rule) high p h r = absurd r

pub walk_begins : (nodes : ℕ → Node ℕ Xad) (levels : ℕ) (c : Child ℕ) (low : ℕ) (high : Option ℕ) → 0 < c.key → Rises xt_scale low (walk xt_scale nodes levels c) high → BeginsAt c.key (rows_of (walk xt_scale nodes levels c))
unfolding walk
walk_begins nodes zero c low high p r = absurd r
walk_begins nodes (suc below) c low high p r = body_begins (walk xt_scale nodes below) c below (nodes c.page) high p (λ d low m q h. walk_begins nodes below d low m q h) r.1

-- and so of several children
pub children_begin : (nodes : ℕ → Node ℕ Xad) (levels : ℕ) (c : Child ℕ) (cs : List (Child ℕ)) (low : ℕ) (high : Option ℕ) → 0 < c.key → Rises xt_scale low (flat_map (walk xt_scale nodes levels) (c ∷ cs)) high
    → BeginsAt c.key (rows_of (flat_map (walk xt_scale nodes levels) (c ∷ cs)))
children_begin nodes levels c cs low high p r =
    let a = walk xt_scale nodes levels c in
    let b = flat_map (walk xt_scale nodes levels) cs in
    let t = rises_cut xt_scale order low a b high r in
    subst (BeginsAt c.key) (sym (rows-append a b)) (begins_more c.key (rows_of a) (rows_of b) (walk_begins nodes levels c low (Some t.0) p t.1))

-- where nothing is written, the entries stay
pub nothing : (es : List Xad) → with_range [] es ≡ es
nothing es = ap (λ ps. with_all_written ps es) (parts_none es)
