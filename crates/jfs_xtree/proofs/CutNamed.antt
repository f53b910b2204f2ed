-- What a cut of a whole tree frees and names, whatever its pages hold.
use Rattle.std.proofs.Common.{◌≡◌, ◌≤◌, ◌<◌, ◌+◌, inl, inr, refl, sym, ap, subst, ℕ, zero, suc, Bool, true, false, List, [], ◌∷◌, ◌++◌, map, length, None, Ok, Err, arith}
use Rattle.jfs_bits.specs.declared.extent.Xad.{Xad}
use Rattle.jfs_bits.specs.declared.descriptor.Pxd.{Pxd}
use Rattle.jfs_bits.specs.declared.rule.Rule.{Rule}
use Rattle.jfs_disk.specs.Image.{Image, page_of}
use Rattle.jfs_ranges.specs.declared.edit.Edit.{Edit}
use Rattle.jfs_tree.specs.Walk.{Child, Node, Leaf, Inner, Broken, Rises, rows_of, times, walk}
use Rattle.jfs_tree.specs.Spells.{no_page, with_root, top, judge, spells}
use Rattle.jfs_tree.specs.Edit.{count_in, FitsFirst}
use Rattle.jfs_tree.specs.Removes.{page_frees}
use Rattle.jfs_tree.specs.Tell.{TellsThen}
use Rattle.jfs_tree.specs.declared.form.TreeError.{TreeError}
use Rattle.jfs_tree.specs.declared.form.TreeError.TheVariants.{View, Bad, Memory}
use Rattle.jfs_tree.proofs.Once.{each_once}
use Rattle.jfs_tree.proofs.RootCalls.{names_root}
use Rattle.jfs_tree.proofs.Spelled.{stands}
use Rattle.jfs_xtpage.specs.declared.head.XtForm.{XtForm}
use Rattle.jfs_xtpage.specs.Page.{head_of, entries_of, count_of}
use Rattle.jfs_xtpage.proofs.Entries.{length-entries}
use Rattle.jfs_xtree.specs.Laws.{order}
use Rattle.jfs_xtree.specs.Node.{xt_scale, xt_node, is_leaf, child_of, IsSound}
use Rattle.jfs_xtree.specs.Spells.{root_form, page_nodes}
use Rattle.jfs_xtree.specs.Errors.{handed_on}
use Rattle.jfs_xtree.specs.Cutting.{gone_past, run_frees}
use Rattle.jfs_xtree.specs.CutMet.{met_below, met_of, path_below, way_pages, FreesOnce, NamesFirstMet}
use Rattle.jfs_xtree.specs.CutParts.{CutMet, FitsLeaf, StopsAt, shows}
use Rattle.jfs_xtree.proofs.Reading.{sound_leaf, sound_inner}
use Rattle.jfs_xtree.proofs.CutInners.{here_zero}
use Rattle.jfs_xtree.proofs.CutMarks.{rises_judged, not_judged}
use Rattle.jfs_xtree.proofs.CutSpelled.{node_rises, met_rises}
use Rattle.jfs_xtree.proofs.CutRoots.{among}

-- ---- what is freed

-- the pages and blocks that are freed, where this is met
record Once (bound : ℕ) (pages : ℕ → Node ℕ Xad) (root : Node ℕ Xad) (freed : List ℕ) (runs : List Pxd) : Type 0 where
  xs : List Xad
  met_is : judge xt_scale 0 (met_of pages bound root) ≡ Ok xs
  once : (n : ℕ) → count_in n freed ≤ 1
  inside : (n : ℕ) → count_in n freed ≤ times n (met_of pages bound root)
  gone : runs ≡ gone_past bound xs
  rest : (n : ℕ) → times n (met_of pages bound root) ≤ count_in n freed + count_in n (path_below (way_pages pages bound 7) bound root)

none_once : (bound : ℕ) (pages : ℕ → Node ℕ Xad) (freed : List ℕ) (runs : List Pxd) → freed ≡ [] → runs ≡ [] → Once bound pages (Leaf []) freed runs
none_once bound pages freed runs none empty = record { xs = []; met_is = refl; once = λ n. (let e = ap (count_in n) none in omega (arith, e)); inside = λ n. (let e = ap (count_in n) none in omega (arith, e)); gone = empty; rest = λ n. omega arith }

leaf_once : (bound high below : ℕ) (pages : ℕ → Node ℕ Xad) (es : List Xad) (kept : Bool) (freed : List ℕ) (runs : List Pxd) → (FitsFirst xt_scale 0 es → CutMet pages bound 7 (top xt_scale) (Leaf es) high below kept freed runs) → (freed ≡ []) × (runs ≡ gone_past bound es)
    → Once bound pages (Leaf es) freed runs
leaf_once bound high below pages [] kept freed runs cut none = none_once bound pages freed runs none.0 none.1
leaf_once bound high below pages (e ∷ es) kept freed runs cut none =
    let m = cut refl in
    record { xs = rows_of (met_below pages bound 7 (top xt_scale) (Leaf (e ∷ es))); met_is = rises_judged 0 (met_below pages bound 7 (top xt_scale) (Leaf (e ∷ es))) high m.rises; once = λ n. (m.spread n).0; inside = m.inside; gone = m.gone; rest = m.rest }

inner_once : (bound high below : ℕ) (pages : ℕ → Node ℕ Xad) (cs : List (Child ℕ)) (kept : Bool) (freed : List ℕ) (runs : List Pxd) → CutMet pages bound 7 (top xt_scale) (Inner cs) high below kept freed runs → Once bound pages (Inner cs) freed runs
inner_once bound high below pages cs kept freed runs m =
    record { xs = rows_of (met_below pages bound 7 (top xt_scale) (Inner cs)); met_is = rises_judged 0 (met_below pages bound 7 (top xt_scale) (Inner cs)) high m.rises; once = λ n. (m.spread n).0; inside = m.inside; gone = m.gone; rest = m.rest }

some_entries : (root : List ℕ) → 2 < (head_of root).nextindex → 0 < length (entries_of root)
some_entries root l = let size = length-entries root 0 (count_of root) in omega (arith, size, l)

not_both : (b : Bool) → b ≡ true → b ≡ false → ⊥
not_both true e f = cc
not_both false e f = cc

root_once : (form : XtForm) (blocks bound high below : ℕ) (root : List ℕ) (image : Image) (kept : Bool) (freed : List ℕ) (runs : List Pxd) → IsSound form blocks (head_of root) (entries_of root) → (is_leaf (head_of root).flag ≡ false → 2 < (head_of root).nextindex)
    → (FitsLeaf 0 root → (page : ℕ) → CutMet (page_nodes blocks (page_of image)) bound 7 (record { key = 0; page = page }) (xt_node form blocks root) high below kept freed runs)
    → (is_leaf (head_of root).flag ≡ true → (freed ≡ []) × (runs ≡ gone_past bound (entries_of root))) → Once bound (page_nodes blocks (page_of image)) (xt_node form blocks root) freed runs
root_once form blocks bound high below root image kept freed runs sound some cut leaf = by (is_leaf (head_of root).flag) refl
  where
    by : (f : Bool) → is_leaf (head_of root).flag ≡ f → Once bound (page_nodes blocks (page_of image)) (xt_node form blocks root) freed runs
    by true flag =
        let is = sound_leaf form blocks root sound flag in
        subst (λ o. Once bound (page_nodes blocks (page_of image)) o freed runs) (sym is)
        (leaf_once bound high below (page_nodes blocks (page_of image)) (entries_of root) kept freed runs
        (λ fits. subst (λ o. CutMet (page_nodes blocks (page_of image)) bound 7 (top xt_scale) o high below kept freed runs) is (cut (λ l. fits) no_page)) (leaf flag))
    by false flag =
        let is = sound_inner form blocks root sound flag (some_entries root (some flag)) in
        subst (λ o. Once bound (page_nodes blocks (page_of image)) o freed runs) (sym is)
        (inner_once bound high below (page_nodes blocks (page_of image)) (map child_of (entries_of root)) kept freed runs
        (subst (λ o. CutMet (page_nodes blocks (page_of image)) bound 7 (top xt_scale) o high below kept freed runs) is (cut (λ l. absurd (not_both (is_leaf (head_of root).flag) l flag)) no_page)))

pub frees_once : (form : XtForm) (blocks bound high below : ℕ) (root : List ℕ) (image : Image) (kept : Bool) (freed : List ℕ) (runs : List Pxd) (tx later : List Edit) → form ≡ root_form (length root) → IsSound form blocks (head_of root) (entries_of root)
    → (is_leaf (head_of root).flag ≡ false → 2 < (head_of root).nextindex)
    → (FitsLeaf 0 root → (page : ℕ) → CutMet (page_nodes blocks (page_of image)) bound 7 (record { key = 0; page = page }) (xt_node form blocks root) high below kept freed runs)
    → (is_leaf (head_of root).flag ≡ true → (freed ≡ []) × (runs ≡ gone_past bound (entries_of root))) → TellsThen (page_frees freed ++ run_frees runs) tx later → FreesOnce blocks (page_of image) bound root tx later
frees_once form blocks bound high below root image kept freed runs tx later is sound some cut leaf told =
    let o = subst (λ f. Once bound (page_nodes blocks (page_of image)) (xt_node f blocks root) freed runs) is (root_once form blocks bound high below root image kept freed runs sound some cut leaf) in
    (o.xs, freed, o.met_is, o.once, o.inside, subst (λ ps. TellsThen (page_frees freed ++ run_frees ps) tx later) o.gone told, o.rest)

-- ---- what is named

-- a root that spells a list breaks no rule in what is met
spelled_met : (pages : ℕ → Node ℕ Xad) (bound : ℕ) (root : Node ℕ Xad) (below : ℕ) → suc below ≤ 8 → Rises xt_scale 0 (walk xt_scale (with_root root pages) (suc below) (top xt_scale)) None → Rises xt_scale 0 (met_below pages bound 7 (top xt_scale) root) None
unfolding walk
spelled_met pages bound root below most r =
    let S = shows (with_root root pages) below (top xt_scale) root in
    let once = each_once xt_scale order (with_root root pages) (suc below) (top xt_scale) 0 None r in
    let none : times no_page S ≡ 0 = let h = once no_page in here_zero no_page (times no_page S) (times no_page S) 0 h (omega arith) in
    (node_rises pages bound below 7 (top xt_scale) root None (met_rises pages bound below 7 (omega (arith, most))) (subst (λ ms. Rises xt_scale 0 ms None) (sym (among pages root below none)) r.1)).0

spelled_rises : (pages : ℕ → Node ℕ Xad) (bound : ℕ) (root : Node ℕ Xad) (levels : ℕ) → levels ≤ 8 → Rises xt_scale 0 (walk xt_scale (with_root root pages) levels (top xt_scale)) None → Rises xt_scale 0 (met_below pages bound 7 (top xt_scale) root) None
unfolding walk
spelled_rises pages bound root zero most r = absurd r
spelled_rises pages bound root (suc below) most r = spelled_met pages bound root below most r

abbrev an_inner : List (Child ℕ) → Node ℕ Xad
an_inner cs = Inner cs

abbrev a_bad : ℕ → Rule → TreeError
a_bad page rule = Bad page rule

not_memory : (page : ℕ) (rule : Rule) → a_bad page rule ≡ Memory → ⊥
not_memory page rule e = cc

not_spelled : (pages : ℕ → Node ℕ Xad) (bound : ℕ) (cs : List (Child ℕ)) (f : ℕ × Rule) → judge xt_scale 0 (met_below pages bound 7 (top xt_scale) (Inner cs)) ≡ Err f → (es : List Xad) → spells xt_scale pages (Inner cs) ≡ Ok es → ⊥
not_spelled pages bound cs f j es h = elim (stands xt_scale pages (Inner cs) es h) [
  | inl e ↦ no_leaf cs e.0
  | inr st ↦ not_judged 0 (met_below pages bound 7 (top xt_scale) (Inner cs)) f (spelled_rises pages bound (Inner cs) st.levels st.most st.rises) j
]
  where
    no_leaf : (cs : List (Child ℕ)) → an_inner cs ≡ Leaf [] → ⊥
    no_leaf cs e = cc

-- a page below the root
pub names_met : (form : XtForm) (blocks bound : ℕ) (root : List ℕ) (image : Image) (e : TreeError) → form ≡ root_form (length root) → IsSound form blocks (head_of root) (entries_of root) → (is_leaf (head_of root).flag ≡ false → 2 < (head_of root).nextindex)
    → (is_leaf (head_of root).flag ≡ true → e ≡ Memory) → StopsAt 0 (met_below (page_nodes blocks (page_of image)) bound 7 (top xt_scale) (xt_node form blocks root)) e → NamesFirstMet blocks (page_of image) bound root (handed_on e)
names_met form blocks bound root image (View e) is sound some leaf stops = tt
names_met form blocks bound root image Memory is sound some leaf stops = tt
names_met form blocks bound root image (Bad page rule) is sound some leaf stops =
    let pages = page_nodes blocks (page_of image) in
    subst (λ f. (judge xt_scale 0 (met_of pages bound (xt_node f blocks root)) ≡ Err (page, rule)) × ((es : List Xad) → spells xt_scale pages (xt_node f blocks root) ≡ Ok es → ⊥)) is (by (is_leaf (head_of root).flag) refl)
  where
    by : (f : Bool) → is_leaf (head_of root).flag ≡ f → (judge xt_scale 0 (met_of (page_nodes blocks (page_of image)) bound (xt_node form blocks root)) ≡ Err (page, rule)) × ((es : List Xad) → spells xt_scale (page_nodes blocks (page_of image)) (xt_node form blocks root) ≡ Ok es → ⊥)
    by true flag = absurd (not_memory page rule (leaf flag))
    by false flag =
        let node = sound_inner form blocks root sound flag (some_entries root (some flag)) in
        let cs = map child_of (entries_of root) in
        let j = subst (λ o. judge xt_scale 0 (met_below (page_nodes blocks (page_of image)) bound 7 (top xt_scale) o) ≡ Err (page, rule)) node stops in
        subst (λ o. (judge xt_scale 0 (met_of (page_nodes blocks (page_of image)) bound o) ≡ Err (page, rule)) × ((es : List Xad) → spells xt_scale (page_nodes blocks (page_of image)) o ≡ Ok es → ⊥)) (sym node)
        (j, not_spelled (page_nodes blocks (page_of image)) bound cs (page, rule) j)

-- the root
pub names_root_met : (form : XtForm) (b blocks bound : ℕ) (root : List ℕ) (image : Image) (rule : Rule) → b ≡ blocks → form ≡ root_form (length root) → xt_node form b root ≡ Broken rule
    → (judge xt_scale 0 (met_of (page_nodes blocks (page_of image)) bound (xt_node (root_form (length root)) blocks root)) ≡ Err (no_page, rule)) × ((es : List Xad) → spells xt_scale (page_nodes blocks (page_of image)) (xt_node (root_form (length root)) blocks root) ≡ Ok es → ⊥)
names_root_met form b blocks bound root image rule eb ef is =
    let broken = subst (λ f. xt_node f blocks root ≡ Broken rule) ef (subst (λ n. xt_node form n root ≡ Broken rule) eb is) in
    (ap (λ o. judge xt_scale 0 (met_of (page_nodes blocks (page_of image)) bound o)) broken, (names_root xt_scale (page_nodes blocks (page_of image)) (xt_node (root_form (length root)) blocks root) rule broken).1)
