-- Pages entry by entry and child by child, and what a walk of a whole tree leaves.
use Rattle.std.proofs.Common.{◌≡◌, ◌≤◌, ◌<◌, refl, sym, ap, ◌∙◌, subst, ℕ, List, [], ◌++◌, length, map, Some, Ok, arith}
use Rattle.std.specs.Prelude.{slice_get}
use Rattle.std.specs.Ordering.{is_lt, nat_cmp}
use Rattle.std.specs.Cmp.Lexicographic.{slice_cmp}
use Rattle.std.specs.declared.cmp.Ordering.{Ordering}
use Rattle.std.specs.declared.cmp.Ordering.TheVariants.{Less, Equal, Greater}
use Rattle.std.proofs.lemmas.List.{length-map}
use Rattle.jfs_disk.specs.Image.{Image, page_of}
use Rattle.jfs_name.specs.declared.name.NameEntry.{NameEntry}
use Rattle.jfs_dtpage.specs.declared.head.DtForm.{DtForm}
use Rattle.jfs_dtpage.specs.declared.head.DtForm.TheVariants.{Root, Full}
use Rattle.jfs_dtpage.specs.Form.{count_of}
use Rattle.jfs_dtpage.specs.Order.{name_at}
use Rattle.jfs_dtpage.specs.Page.{entries_of, names_of, IsDtPage}
use Rattle.jfs_dtpage.proofs.Rising.{same_names, before_other}
use Rattle.jfs_tree.specs.Walk.{Child, Node, Leaf, Inner, Broken, rows_of}
use Rattle.jfs_tree.specs.Spells.{spells, tree_of}
use Rattle.jfs_tree.specs.Call.{pages_of}
use Rattle.jfs_tree.specs.Walking.{rows_in, children_in, NamesFirst}
use Rattle.jfs_tree.specs.declared.form.TreeError.{TreeError}
use Rattle.jfs_tree.specs.declared.form.TreeError.TheVariants.{View, Bad, Memory}
use Rattle.jfs_dtree.specs.Node.{not_after, name_scale, named, below, dt_node}
use Rattle.jfs_dtree.specs.Place.{IsChildAt}
use Rattle.jfs_dtree.specs.Spells.{root_node, page_nodes, spells_names, NamesFirstBroken}
use Rattle.jfs_dtree.specs.Errors.{handed_on}
use Rattle.jfs_dtree.specs.Laws.{next_of, next_after}
use Rattle.jfs_dtree.proofs.Nodes.{LeafPage, InnerPage, leaf_is, inner_is}
use Rattle.jfs_dtree.proofs.Places.{reaches, itself}
use Rattle.jfs_dtree.proofs.Leading.{child_at, key_at, keys_are, entries_length}

-- ---- what a place among a page's rows tells

pub record RowPlace (form : DtForm) (blocks : ℕ) (bytes : List ℕ) (i : ℕ) : Type 0 where
  pub page : LeafPage form bytes (map named (entries_of form bytes))
  pub rows : rows_in (dt_node form blocks bytes) ≡ map named (entries_of form bytes)
  pub within : i < count_of bytes

pub row_place : (form : DtForm) (blocks : ℕ) (bytes : List ℕ) (i : ℕ) → i < length (rows_in (dt_node form blocks bytes)) → RowPlace form blocks bytes i
row_place form blocks bytes i h = by (dt_node form blocks bytes) refl h
  where
    by : (node : Node (List ℕ) NameEntry) → dt_node form blocks bytes ≡ node → i < length (rows_in node) → RowPlace form blocks bytes i
    by (Leaf es) e l =
        let p = leaf_is form blocks bytes es e in
        let n : length es ≡ count_of bytes = ap length (sym p.2) ∙ length-map (entries_of form bytes) named ∙ entries_length form bytes in
        record { page = (p.0, p.1, refl); rows = ap rows_in e ∙ sym p.2; within = omega (arith, l, n) }
    by (Inner cs) e l = absurd (omega (arith, l))
    by (Broken rule) e l = absurd (omega (arith, l))

pub record ChildPlace (form : DtForm) (blocks : ℕ) (bytes : List ℕ) (i : ℕ) : Type 0 where
  pub page : InnerPage form blocks bytes (map below (entries_of form bytes))
  pub children : children_in (dt_node form blocks bytes) ≡ map below (entries_of form bytes)
  pub within : i < count_of bytes

pub child_place_at : (form : DtForm) (blocks : ℕ) (bytes : List ℕ) (i : ℕ) → i < length (children_in (dt_node form blocks bytes)) → ChildPlace form blocks bytes i
child_place_at form blocks bytes i h = by (dt_node form blocks bytes) refl h
  where
    by : (node : Node (List ℕ) NameEntry) → dt_node form blocks bytes ≡ node → i < length (children_in node) → ChildPlace form blocks bytes i
    by (Leaf es) e l = absurd (omega (arith, l))
    by (Inner cs) e l =
        let p = inner_is form blocks bytes cs e in
        let n : length cs ≡ count_of bytes = ap length (sym p.4) ∙ length-map (entries_of form bytes) below ∙ entries_length form bytes in
        record { page = (p.0, p.1, p.2, p.3, refl); children = ap children_in e ∙ sym p.4; within = omega (arith, l, n) }
    by (Broken rule) e l = absurd (omega (arith, l))

pub few_entries : (form : DtForm) (bytes : List ℕ) → IsDtPage form bytes → count_of bytes ≤ 123
few_entries Root bytes sound = let e = sound.1.0.entries in omega (arith, e)
few_entries Full bytes sound = let e = sound.1.0.entries in omega (arith, e)

pub child_gets : (form : DtForm) (blocks : ℕ) (bytes : List ℕ) (i : ℕ) (key : List ℕ) (page : ℕ) → ChildPlace form blocks bytes i → key ≡ name_at (names_of form bytes) i → IsChildAt (entries_of form bytes) i page
    → slice_get (children_in (dt_node form blocks bytes)) i ≡ Some (record { key = key; page = page })
child_gets form blocks bytes i key page place is at =
    let cs = map below (entries_of form bytes) in
    let c : Child (List ℕ) = record { key = at.1; page = at.0.addr } in
    let got : slice_get cs i ≡ Some c = child_at (entries_of form bytes) i page at.0 at.1 at.2 in
    let same : at.1 ≡ key = sym (is ∙ ap (λ names. name_at names i) (keys_are form bytes) ∙ key_at cs i c got) in
    ap (λ ds. slice_get ds i) place.children ∙ got ∙ rw (same, at.3) refl

-- ---- the place just behind a name

pub behind_admits : (a b : List ℕ) → is_lt (slice_cmp nat_cmp a b) ≡ not_after (next_of a) b
behind_admits a b = by (slice_cmp nat_cmp a b) refl
  where
    by : (r : Ordering) → slice_cmp nat_cmp a b ≡ r → is_lt (slice_cmp nat_cmp a b) ≡ not_after (next_of a) b
    by Less e = ap is_lt e ∙ sym (next_after a b e)
    by Equal e = ap is_lt e ∙ sym (itself a b (same_names a b e))
    by Greater e = ap is_lt e ∙ sym (reaches b a (before_other a b e))

-- ---- a walk of a whole tree

pub list_as : (b blocks : ℕ) (image : Image) (root : List ℕ) (start now : List NameEntry) → b ≡ blocks → start ≡ [] → now ≡ start ++ rows_of (tree_of name_scale (pages_of (dt_node Full b) image) (dt_node Root b root))
    → spells name_scale (pages_of (dt_node Full b) image) (dt_node Root b root) ≡ Ok (rows_of (tree_of name_scale (pages_of (dt_node Full b) image) (dt_node Root b root))) → spells_names blocks (page_of image) root ≡ Ok now
list_as b blocks image root start now eb es en spelled =
    let rows = rows_of (tree_of name_scale (pages_of (dt_node Full b) image) (dt_node Root b root)) in
    subst (λ n. spells name_scale (pages_of (dt_node Full n) image) (dt_node Root n root) ≡ Ok now) eb (spelled ∙ ap (λ es. Ok es) (sym (en ∙ ap (λ es. es ++ rows) es)))

first_on : (pages : ℕ → Node (List ℕ) NameEntry) (root : Node (List ℕ) NameEntry) (e : TreeError) → NamesFirst name_scale pages root e → NamesFirstBroken pages root (handed_on e)
first_on pages root (View e) h = h
first_on pages root (Bad page rule) h = h
first_on pages root Memory h = tt

pub first_as : (b blocks : ℕ) (image : Image) (root : List ℕ) (e : TreeError) → b ≡ blocks → NamesFirst name_scale (pages_of (dt_node Full b) image) (dt_node Root b root) e
    → NamesFirstBroken (page_nodes blocks (page_of image)) (root_node blocks root) (handed_on e)
first_as b blocks image root e eb h = first_on (page_nodes blocks (page_of image)) (root_node blocks root) e (subst (λ n. NamesFirst name_scale (pages_of (dt_node Full n) image) (dt_node Root n root) e) eb h)
