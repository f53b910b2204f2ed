-- What stays of a page while names come and go, and names that are apart.
use Rattle.std.proofs.Common.{◌≡◌, ◌≤◌, ◌<◌, inl, inr, refl, sym, ap, ◌∙◌, subst, ℕ, zero, suc, Bool, List, [], ◌∷◌, length, map, get_or, arith}
use Rattle.jfs_disk.specs.Image.{Image, page_of}
use Rattle.jfs_name.specs.declared.name.NameEntry.{NameEntry}
use Rattle.jfs_ranges.specs.declared.edit.Edit.{Edit}
use Rattle.jfs_dtpage.specs.declared.head.DtForm.{DtForm}
use Rattle.jfs_dtpage.specs.declared.head.DtForm.TheVariants.{Root, Full}
use Rattle.jfs_dtpage.specs.declared.head.DtHead.{DtHead}
use Rattle.jfs_dtpage.specs.declared.head.Place.{Place}
use Rattle.jfs_dtpage.specs.declared.head.Place.TheVariants.{InInode, OnVolume}
use Rattle.jfs_dtpage.specs.Form.{head_of, linked, KeepsHead}
use Rattle.jfs_dtpage.specs.Order.{IsBefore, name_at, GoesAt}
use Rattle.jfs_dtpage.specs.Page.{entries_of, names_of}
use Rattle.jfs_tree.specs.Walk.{Child, Node, Leaf, Inner, Broken}
use Rattle.jfs_tree.specs.Edit.{IsApart, KeysRise}
use Rattle.jfs_tree.specs.Form.{AtPlace}
use Rattle.jfs_tree.specs.Apart.{ApartAt}
use Rattle.jfs_tree.specs.Frames.{FramesTold}
use Rattle.jfs_dtree.specs.Frame.{frame_in, frame_of, new_frame, NamesPages}
use Rattle.jfs_dtree.specs.Laws.{next_after}
use Rattle.jfs_dtree.specs.Node.{name_scale, named, dt_node, IsRoot}
use Rattle.jfs_dtree.specs.Parent.{parent_of}
use Rattle.jfs_dtree.specs.Parts.{AreNeighbours, SplitsInner, SplitsLeaf, prev_in}
use Rattle.jfs_dtree.proofs.Nodes.{leaf_is}
use Rattle.jfs_dtree.proofs.Places.{before_rows, behind_rows, row_names}

-- ---- frames

pub head_frame : (form : DtForm) (old new : List ℕ) → KeepsHead form old new → frame_of form new ≡ frame_of form old
head_frame form old new head = ap frame_in head.place

pub linked_frame : (next prev : ℕ) (place : Place) → frame_in (linked next prev place) ≡ frame_in place
linked_frame next prev (InInode parent) = refl
linked_frame next prev (OnVolume a b maxslot stblindex at) = refl

pub left_frame : (n q : ℕ) (old left right : List ℕ) → AreNeighbours n q old left right → frame_of Full left ≡ frame_of Full old
left_frame n q old left right beside = ap frame_in beside.left_is ∙ linked_frame q (prev_in (head_of Full old).place) (head_of Full old).place

pub right_frame : (n q : ℕ) (old left right : List ℕ) → AreNeighbours n q old left right → frame_of Full right ≡ new_frame q
right_frame n q old left right beside = ap frame_in beside.right_is

-- a page below a root that became two
pub split_kept : (form : DtForm) (old new : List ℕ) → (IsRoot form → ⊥) → frame_of Full new ≡ frame_of Full old → frame_of form new ≡ frame_of form old
split_kept Root old new below h = absurd (below tt)
split_kept Full old new below h = h

pub split_new : (form : DtForm) (blocks n q : ℕ) (last : Bool) (x : NameEntry) (old left right key : List ℕ) → (IsRoot form → ⊥) → ((blocks : ℕ) (es : List NameEntry) → dt_node Full blocks old ≡ Leaf es → IsApart name_scale x es → SplitsLeaf n q last x old left right key)
    → (es : List NameEntry) → dt_node form blocks old ≡ Leaf es → IsApart name_scale x es → frame_of form right ≡ new_frame q
split_new Root blocks n q last x old left right key below rules es leaf apart = absurd (below tt)
split_new Full blocks n q last x old left right key below rules es leaf apart = right_frame n q old left right (rules blocks es leaf apart).neighbours

pub inner_new : (form : DtForm) (blocks n q : ℕ) (last : Bool) (place : ℕ) (child : Child (List ℕ)) (old left right key : List ℕ) → (IsRoot form → ⊥)
    → ((blocks : ℕ) (all : List (Child (List ℕ))) → AtPlace (dt_node Full blocks old) place child all → KeysRise name_scale all → SplitsInner n q last child old left right key)
    → (all : List (Child (List ℕ))) → AtPlace (dt_node form blocks old) place child all → KeysRise name_scale all → frame_of form right ≡ new_frame q
inner_new Root blocks n q last place child old left right key below rules all at rise = absurd (below tt)
inner_new Full blocks n q last place child old left right key below rules all at rise = right_frame n q old left right (rules blocks all at rise).neighbours

-- a root's parent
pub root_frame : (form : DtForm) (old new : List ℕ) → IsRoot form → parent_of new ≡ parent_of old → frame_of form new ≡ frame_of form old
root_frame Root old new top same = ap (λ n. n ∷ []) same
root_frame Full old new top same = absurd top

pub parent_kept : (old new : List ℕ) → frame_of Root new ≡ frame_of Root old → parent_of new ≡ parent_of old
parent_kept old new same = ap (λ (xs : List ℕ). get_or xs 0 0) same

-- of a page whose neighbours are others
pub place_frame : (form : DtForm) (old new : List ℕ) (next prev : ℕ) → form ≡ Full → head_of Full new ≡ record (head_of Full old) { place = linked next prev (head_of Full old).place } → frame_of form new ≡ frame_of form old
place_frame form old new next prev is head =
    subst (λ f. frame_of f new ≡ frame_of f old) (sym is) (ap (λ (h : DtHead). frame_in h.place) head ∙ linked_frame next prev (head_of Full old).place)

-- ---- apart

apart_rows : (es : List NameEntry) (place : ℕ) (x : NameEntry) → ((i : ℕ) → i < place → IsBefore (name_at (row_names es) i) x.name) → ((i : ℕ) → place ≤ i → i < length es → IsBefore x.name (name_at (row_names es) i)) → IsApart name_scale x es
apart_rows [] place x before behind = tt
apart_rows (e ∷ es) zero x before behind = (inr (next_after x.name e.name (behind 0 (omega arith) (omega arith))), apart_rows es zero x (λ i h. absurd (omega (arith, h))) (λ i h l. behind (suc i) (omega arith) (omega (arith, l))))
apart_rows (e ∷ es) (suc place) x before behind =
    (inl (next_after e.name x.name (before 0 (omega arith))), apart_rows es place x (λ i h. before (suc i) (omega (arith, h))) (λ i h l. behind (suc i) (omega (arith, h)) (omega (arith, l))))

pub name_apart : (form : DtForm) (blocks : ℕ) (bytes name : List ℕ) (x : NameEntry) (place : ℕ) → name ≡ x.name → GoesAt (names_of form bytes) place name → ApartAt name_scale x (dt_node form blocks bytes)
name_apart form blocks bytes name x place same goes = by (dt_node form blocks bytes) refl
  where
    by : (m : Node (List ℕ) NameEntry) → dt_node form blocks bytes ≡ m → ApartAt name_scale x m
    by (Leaf es) e =
        let page = leaf_is form blocks bytes es e in
        subst (IsApart name_scale x) page.2 (apart_rows (map named (entries_of form bytes)) place x (before_rows form bytes name x place same goes) (behind_rows form bytes name x place same goes))
    by (Inner cs) e = tt
    by (Broken rule) e = tt

-- ---- of all pages

pub named_as : (b count blocks : ℕ) (image now : Image) (root : List ℕ) (x y : NameEntry) (free left : List ℕ) (tx later : List Edit) → b ≡ count → count ≡ blocks → image ≡ now → x ≡ y
    → FramesTold name_scale (dt_node Full b) (frame_of Full) new_frame count x (page_of image) (dt_node Root b root) free left tx later → NamesPages blocks (page_of now) y root free left tx later
named_as b count blocks image now root x y free left tx later eb ec ei ex told =
    subst (λ (e : NameEntry). NamesPages blocks (page_of now) e root free left tx later) ex
    (subst (λ (i : Image). NamesPages blocks (page_of i) x root free left tx later) ei
    (subst (λ n. NamesPages n (page_of image) x root free left tx later) ec
    (subst (λ n. FramesTold name_scale (dt_node Full n) (frame_of Full) new_frame count x (page_of image) (dt_node Root n root) free left tx later) eb told)))
