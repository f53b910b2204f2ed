-- Entries and children by their places.
use Rattle.std.proofs.Common.{◌≡◌, ◌<◌, ◌≤◌, refl, sym, ap, ◌∙◌, subst, ℕ, zero, suc, ◌+◌, ◌*◌, ◌^◌, List, [], ◌++◌, map, length, Some, Ok, arith}
use Rattle.std.specs.Prelude.{nat_le, slice_get}
use Rattle.std.proofs.lemmas.Bool.{leb-true}
use Rattle.std.proofs.lemmas.List.{length-map}
use Rattle.std.proofs.lemmas.Option.{slice_get-map}
use Rattle.std.specs.Option.{option_map}
use Rattle.jfs_bits.specs.declared.extent.Xad.{Xad}
use Rattle.jfs_disk.specs.Image.{Image, page_of}
use Rattle.jfs_tree.specs.Walk.{Child, Node, Leaf, Inner, Broken, rows_of}
use Rattle.jfs_tree.specs.Spells.{tree_of, spells}
use Rattle.jfs_tree.specs.Call.{pages_of}
use Rattle.jfs_tree.specs.Walking.{NamesFirst, rows_in, children_in}
use Rattle.jfs_tree.specs.declared.form.TreeError.{TreeError}
use Rattle.jfs_tree.specs.declared.form.TreeError.TheVariants.{View, Bad, Memory}
use Rattle.jfs_xtpage.specs.declared.head.XtForm.{XtForm}
use Rattle.jfs_xtpage.specs.declared.head.XtForm.TheVariants.{Root, Full, Small}
use Rattle.jfs_xtpage.specs.Page.{bytes_of, head_of, entries_of, entries_from, entry_of, count_of, IsLaidOut}
use Rattle.jfs_xtpage.proofs.Entries.{length-entries}
use Rattle.jfs_xtree.specs.Node.{xt_scale, xt_node, child_of, IsSound}
use Rattle.jfs_xtree.specs.Spells.{page_nodes, tree_error}
use Rattle.jfs_xtree.specs.Errors.{handed_on}
use Rattle.jfs_xtree.proofs.Reading.{and_true, leaf_is, inner_is}
use Rattle.jfs_xtree.proofs.Pages.{slots}

-- an entry's place: the page is sound, and the entry lies within its bytes
pub record HasPlace (form : XtForm) (blocks : ℕ) (bytes : List ℕ) (i : ℕ) : Type 0 where
  pub sound : IsSound form blocks (head_of bytes) (entries_of bytes)
  pub before : i < count_of bytes

pub row_place : (form : XtForm) (blocks : ℕ) (bytes : List ℕ) (i : ℕ) → i < length (rows_in (xt_node form blocks bytes)) → HasPlace form blocks bytes i × (rows_in (xt_node form blocks bytes) ≡ entries_of bytes)
row_place form blocks bytes i l = by (xt_node form blocks bytes) refl l
  where
    by : (m : Node ℕ Xad) → xt_node form blocks bytes ≡ m → i < length (rows_in m) → HasPlace form blocks bytes i × (rows_in (xt_node form blocks bytes) ≡ entries_of bytes)
    by (Leaf es) e l =
        let t = leaf_is form blocks bytes es e in
        let size = length-entries bytes 0 (count_of bytes) in
        let same : length (entries_of bytes) ≡ length es = ap length t.2 in
        (record { sound = t.0; before = omega (arith, l, same, size) }, ap rows_in e ∙ sym t.2)
    by (Inner cs) e l = absurd (omega (arith, l))
    by (Broken rule) e l = absurd (omega (arith, l))

pub child_place_at : (form : XtForm) (blocks : ℕ) (bytes : List ℕ) (i : ℕ) → i < length (children_in (xt_node form blocks bytes)) → HasPlace form blocks bytes i × (children_in (xt_node form blocks bytes) ≡ map child_of (entries_of bytes))
child_place_at form blocks bytes i l = by (xt_node form blocks bytes) refl l
  where
    by : (m : Node ℕ Xad) → xt_node form blocks bytes ≡ m → i < length (children_in m) → HasPlace form blocks bytes i × (children_in (xt_node form blocks bytes) ≡ map child_of (entries_of bytes))
    by (Leaf es) e l = absurd (omega (arith, l))
    by (Inner cs) e l =
        let t = inner_is form blocks bytes cs e in
        let size = length-entries bytes 0 (count_of bytes) in
        let mapped = length-map (entries_of bytes) child_of in
        let same : length (map child_of (entries_of bytes)) ≡ length cs = ap length t.2 in
        (record { sound = t.0; before = omega (arith, l, same, mapped, size) }, ap children_in e ∙ sym t.2)
    by (Broken rule) e l = absurd (omega (arith, l))

pub place_within : (form : XtForm) (blocks : ℕ) (bytes : List ℕ) (i : ℕ) → length bytes ≡ bytes_of form → HasPlace form blocks bytes i → (48 + 16 * i ≤ length bytes) × (i < 2 ^ 16)
place_within form blocks bytes i size p =
    let head = head_of bytes in
    let t = and_true (nat_le 2 head.nextindex) (nat_le head.nextindex head.maxentry) p.sound.count in
    let least = leb-true 2 head.nextindex t.0 in
    let most = leb-true head.nextindex head.maxentry t.1 in
    let m = slots form head.maxentry p.sound.max in
    let bound = m.2 in
    let before = p.before in
    (omega (arith, size, least, most, bound, before), few form (omega (arith, least, most, bound, before)))
  where
    few : (form : XtForm) → 48 + 16 * i ≤ bytes_of form → i < 2 ^ 16
    few Root h = omega (arith, h)
    few Full h = omega (arith, h)
    few Small h = omega (arith, h)

pub laid_out : (form : XtForm) (blocks : ℕ) (bytes : List ℕ) (i : ℕ) → length bytes ≡ bytes_of form → HasPlace form blocks bytes i → IsLaidOut bytes
laid_out form blocks bytes i size p =
    let head = head_of bytes in
    let t = and_true (nat_le 2 head.nextindex) (nat_le head.nextindex head.maxentry) p.sound.count in
    let least = leb-true 2 head.nextindex t.0 in
    let most = leb-true head.nextindex head.maxentry t.1 in
    let m = slots form head.maxentry p.sound.max in
    let bound = m.2 in
    record { least = omega (arith, least); most = omega (arith, most); within = omega (arith, bound, size) }

entry_get : (bytes : List ℕ) (p n i : ℕ) → i < n → slice_get (entries_from bytes p n) i ≡ Some (entry_of bytes (p + i))
entry_get bytes p zero i l = absurd (omega (arith, l))
entry_get bytes p (suc n) zero l = ap (λ k. Some (entry_of bytes k)) (let e : p ≡ p + 0 = omega arith in e)
entry_get bytes p (suc n) (suc i) l = entry_get bytes (suc p) n i (omega (arith, l)) ∙ ap (λ k. Some (entry_of bytes k)) (let e : suc p + i ≡ p + suc i = omega arith in e)

pub entry_gets : (bytes : List ℕ) (i : ℕ) → i < count_of bytes → slice_get (entries_of bytes) i ≡ Some (entry_of bytes i)
entry_gets bytes i l = entry_get bytes 0 (count_of bytes) i l ∙ ap (λ k. Some (entry_of bytes k)) (let e : 0 + i ≡ i = omega arith in e)

pub row_gets : (form : XtForm) (blocks : ℕ) (bytes : List ℕ) (i : ℕ) (x : Xad) → i < length (rows_in (xt_node form blocks bytes)) → x ≡ entry_of bytes i → slice_get (rows_in (xt_node form blocks bytes)) i ≡ Some x
row_gets form blocks bytes i x l is =
    let t = row_place form blocks bytes i l in ap (λ (xs : List Xad). slice_get xs i) t.1 ∙ entry_gets bytes i t.0.before ∙ ap (λ (y : Xad). Some y) (sym is)

pub child_gets : (form : XtForm) (blocks : ℕ) (bytes : List ℕ) (i key page : ℕ) → i < length (children_in (xt_node form blocks bytes)) → key ≡ (entry_of bytes i).offset → page ≡ (entry_of bytes i).at.addr
    → slice_get (children_in (xt_node form blocks bytes)) i ≡ Some (record { key = key; page = page })
child_gets form blocks bytes i key page l k p =
    let t = child_place_at form blocks bytes i l in
    ap (λ (cs : List (Child ℕ)). slice_get cs i) t.1 ∙ slice_get-map child_of (entries_of bytes) i ∙ ap (option_map child_of) (entry_gets bytes i t.0.before)
    ∙ ap (λ (n : ℕ). Some (let c : Child ℕ = record { key = n; page = (entry_of bytes i).at.addr } in c)) (sym k) ∙ ap (λ (n : ℕ). Some (let c : Child ℕ = record { key = key; page = n } in c)) (sym p)

-- ---- the whole list

pub list_as : (b blocks : ℕ) (form rf : XtForm) (image : Image) (root : List ℕ) (none all : List Xad) → b ≡ blocks → form ≡ rf → none ≡ []
    → all ≡ none ++ rows_of (tree_of xt_scale (pages_of (xt_node Full b) image) (xt_node form b root)) → spells xt_scale (pages_of (xt_node Full b) image) (xt_node form b root) ≡ Ok (rows_of (tree_of xt_scale (pages_of (xt_node Full b) image) (xt_node form b root)))
    → spells xt_scale (page_nodes blocks (page_of image)) (xt_node rf blocks root) ≡ Ok all
list_as b blocks form rf image root none all eb ef en is h =
    subst (λ f. spells xt_scale (page_nodes blocks (page_of image)) (xt_node f blocks root) ≡ Ok all) ef
    (subst (λ k. spells xt_scale (pages_of (xt_node Full k) image) (xt_node form k root) ≡ Ok all) eb
    (h ∙ ap (λ (es : List Xad). Ok es) (sym (is ∙ ap (λ es. es ++ rows_of (tree_of xt_scale (pages_of (xt_node Full b) image) (xt_node form b root))) en))))

first_on : (pages : ℕ → Node ℕ Xad) (root : Node ℕ Xad) (e : TreeError) → NamesFirst xt_scale pages root e → NamesFirst xt_scale pages root (tree_error (handed_on e))
first_on pages root (View e) h = h
first_on pages root (Bad page rule) h = h
first_on pages root Memory h = h

pub first_as : (b blocks : ℕ) (form rf : XtForm) (image : Image) (root : List ℕ) (e : TreeError) → b ≡ blocks → form ≡ rf → NamesFirst xt_scale (pages_of (xt_node Full b) image) (xt_node form b root) e
    → NamesFirst xt_scale (page_nodes blocks (page_of image)) (xt_node rf blocks root) (tree_error (handed_on e))
first_as b blocks form rf image root e eb ef h =
    first_on (page_nodes blocks (page_of image)) (xt_node rf blocks root) e
    (subst (λ f. NamesFirst xt_scale (pages_of (xt_node Full blocks) image) (xt_node f blocks root) e) ef (subst (λ k. NamesFirst xt_scale (pages_of (xt_node Full k) image) (xt_node form k root) e) eb h))
