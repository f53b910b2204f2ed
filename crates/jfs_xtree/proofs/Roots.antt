-- Roots by their size, and what is found and refused, as the calls say it.
use Rattle.std.proofs.Common.{◌≡◌, inl, inr, ◌≤◌, refl, sym, ap, ◌∙◌, subst, ℕ, ◌+◌, List, [], true, Option, Ok, Err, arith}
use Rattle.jfs_bits.specs.declared.rule.Rule.{Rule}
use Rattle.jfs_tree.specs.Path.{broken_on_way, found_on_way, TellsBroken}
use Rattle.jfs_xtree.specs.declared.error.XtError.{XtError}
use Rattle.jfs_bits.specs.declared.extent.Xad.{Xad}
use Rattle.jfs_disk.specs.Image.{Image, page_of}
use Rattle.jfs_tree.specs.Walk.{Node, Leaf}
use Rattle.jfs_tree.specs.Spells.{spells}
use Rattle.jfs_tree.specs.Edit.{IsPoint, found_in}
use Rattle.jfs_tree.specs.Root.{FindsAlways, NamesBroken}
use Rattle.jfs_tree.specs.Call.{pages_of}
use Rattle.jfs_tree.specs.declared.form.TreeError.{TreeError}
use Rattle.jfs_tree.specs.declared.form.TreeError.TheVariants.{View, Bad, Memory}
use Rattle.jfs_xtpage.specs.declared.head.XtForm.{XtForm}
use Rattle.jfs_xtpage.specs.declared.head.XtForm.TheVariants.{Root, Full, Small}
use Rattle.jfs_xtpage.specs.declared.head.XtHead.{XtHead}
use Rattle.jfs_bits.specs.declared.descriptor.Pxd.{Pxd}
use Rattle.jfs_xtpage.specs.Page.{bytes_of, head_of, entries_of, new_head, slots_of}
use Rattle.jfs_xtree.specs.Node.{xt_scale, xt_node, IsRoot}
use Rattle.jfs_xtree.specs.Spells.{IsRootSize, root_form, page_nodes, point, tree_error, TellsWay}
use Rattle.jfs_xtree.specs.Errors.{handed_on}
use Rattle.std.proofs.lemmas.Bool.{leb-false, le-leb, lt-leb}
use Rattle.jfs_xtree.proofs.Pages.{new_leaf}

-- a root's form has its size, and is a root's
pub form_fits : (size : ℕ) → IsRootSize size → (size ≡ bytes_of (root_form size)) × IsRoot (root_form size)
form_fits size (inl e) = subst (λ n. (n ≡ bytes_of (root_form n)) × IsRoot (root_form n)) (sym e) (refl, tt)
form_fits size (inr e) = subst (λ n. (n ≡ bytes_of (root_form n)) × IsRoot (root_form n)) (sym e) (refl, tt)

-- one block of a file
pub is_point : (offset : ℕ) → IsPoint xt_scale (point offset)
is_point offset = record {
  next = λ k h. (let l = leb-false k offset h in le-leb (offset + 1) k (omega (arith, l)));
  wide = lt-leb (offset + 1) offset (omega arith);
}

pub finds_as : (b blocks : ℕ) (form rf : XtForm) (x p : Xad) (image : Image) (root : List ℕ) (found : Option Xad) → b ≡ blocks → form ≡ rf → x ≡ p → FindsAlways xt_scale x (pages_of (xt_node Full b) image) (xt_node form b root) found
    → (es : List Xad) → spells xt_scale (page_nodes blocks (page_of image)) (xt_node rf blocks root) ≡ Ok es → found ≡ found_in xt_scale p es
finds_as b blocks form rf x p image root found eb ef ex h =
    subst (λ y. FindsAlways xt_scale y (pages_of (xt_node Full blocks) image) (xt_node rf blocks root) found) ex
    (subst (λ f. FindsAlways xt_scale x (pages_of (xt_node Full blocks) image) (xt_node f blocks root) found) ef
    (subst (λ k. FindsAlways xt_scale x (pages_of (xt_node Full k) image) (xt_node form k root) found) eb h))

-- what is found on the way
pub found_as : (b blocks : ℕ) (form rf : XtForm) (x p : Xad) (image : Image) (root : List ℕ) (found : Option Xad) → b ≡ blocks → form ≡ rf → x ≡ p → found ≡ found_on_way xt_scale (pages_of (xt_node Full b) image) x (xt_node form b root)
    → found ≡ found_on_way xt_scale (page_nodes blocks (page_of image)) p (xt_node rf blocks root)
found_as b blocks form rf x p image root found eb ef ex h =
    h ∙ ap (λ k. found_on_way xt_scale (pages_of (xt_node Full k) image) x (xt_node form k root)) eb
    ∙ ap (λ f. found_on_way xt_scale (pages_of (xt_node Full blocks) image) x (xt_node f blocks root)) ef
    ∙ ap (λ y. found_on_way xt_scale (pages_of (xt_node Full blocks) image) y (xt_node rf blocks root)) ex

names_on : (pages : ℕ → Node ℕ Xad) (root : Node ℕ Xad) (e : TreeError) → NamesBroken xt_scale pages root e → NamesBroken xt_scale pages root (tree_error (handed_on e))
names_on pages root (View e) h = h
names_on pages root (Bad page rule) h = h
names_on pages root Memory h = h

pub names_as : (b blocks : ℕ) (form rf : XtForm) (image : Image) (root : List ℕ) (e : TreeError) → b ≡ blocks → form ≡ rf → NamesBroken xt_scale (pages_of (xt_node Full b) image) (xt_node form b root) e
    → NamesBroken xt_scale (page_nodes blocks (page_of image)) (xt_node rf blocks root) (tree_error (handed_on e))
names_as b blocks form rf image root e eb ef h =
    names_on (page_nodes blocks (page_of image)) (xt_node rf blocks root) e
    (subst (λ f. NamesBroken xt_scale (pages_of (xt_node Full blocks) image) (xt_node f blocks root) e) ef (subst (λ k. NamesBroken xt_scale (pages_of (xt_node Full k) image) (xt_node form k root) e) eb h))

pub first_as : (b blocks : ℕ) (form rf : XtForm) (x : Xad) (offset : ℕ) (image : Image) (root : List ℕ) → b ≡ blocks → form ≡ rf → x.offset ≡ offset
    → broken_on_way xt_scale (page_nodes b (page_of image)) x.offset (xt_node form b root) ≡ broken_on_way xt_scale (page_nodes blocks (page_of image)) offset (xt_node rf blocks root)
first_as b blocks form rf x offset image root eb ef ex =
    ap (λ k. broken_on_way xt_scale (page_nodes k (page_of image)) x.offset (xt_node form k root)) eb
    ∙ ap (λ f. broken_on_way xt_scale (page_nodes blocks (page_of image)) x.offset (xt_node f blocks root)) ef
    ∙ ap (λ at. broken_on_way xt_scale (page_nodes blocks (page_of image)) at (xt_node rf blocks root)) ex

pub told_failed : (first later : Option (ℕ × Rule)) (e : TreeError) (r : XtError) → r ≡ handed_on e → first ≡ later → TellsBroken {T = Unit {0}} first (Err e) → TellsWay {T = Unit {0}} later (Err r)
told_failed first later e r is same h = subst (λ d. TellsWay {T = Unit {0}} later (Err d)) (sym is) (by e h)
  where
    by : (e : TreeError) → TellsBroken {T = Unit {0}} first (Err e) → TellsWay {T = Unit {0}} later (Err (handed_on e))
    by (View v) h = tt
    by (Bad page rule) h = sym same ∙ h
    by Memory h = tt

-- a root without extents
pub new_leaf_root : (form rf : XtForm) (blocks : ℕ) (bytes : List ℕ) (at : Pxd) → form ≡ rf → head_of bytes ≡ new_head form true at → entries_of bytes ≡ [] → xt_node rf blocks bytes ≡ Leaf []
new_leaf_root form rf blocks bytes at is made none =
    subst (λ f. xt_node f blocks bytes ≡ Leaf []) is
    (new_leaf form blocks bytes [] (ap (λ (h : XtHead). h.flag) made, ap (λ (h : XtHead). h.maxentry) made, (let n : (head_of bytes).nextindex ≡ 2 = ap (λ (h : XtHead). h.nextindex) made in omega (arith, n)), (let n : (head_of bytes).nextindex ≡ 2 = ap (λ (h : XtHead). h.nextindex) made in few form (head_of bytes).nextindex n)) none refl refl)
  where
    few : (form : XtForm) (n : ℕ) → n ≡ 2 → n ≤ slots_of form
    few Root n e = omega (arith, e)
    few Full n e = omega (arith, e)
    few Small n e = omega (arith, e)

spells_none : (blocks : ℕ) (pages : ℕ → List ℕ) → spells xt_scale (page_nodes blocks pages) (Leaf []) ≡ Ok []
unfolding spells
spells_none blocks pages = refl

pub new_list_root : (form rf : XtForm) (blocks : ℕ) (pages : ℕ → List ℕ) (bytes : List ℕ) (at : Pxd) → form ≡ rf → head_of bytes ≡ new_head form true at → entries_of bytes ≡ [] → spells xt_scale (page_nodes blocks pages) (xt_node rf blocks bytes) ≡ Ok []
new_list_root form rf blocks pages bytes at is made none = ap (spells xt_scale (page_nodes blocks pages)) (new_leaf_root form rf blocks bytes at is made none) ∙ spells_none blocks pages
