-- A root that moves down.
use Rattle.std.proofs.Common.{◌≡◌, ◌≤◌, ◌<◌, ◌+◌, ℕ, true, false, List, [], ◌∷◌, map, take, refl, sym, ap, ◌∙◌, subst, arith}
use Rattle.std.specs.List.{list_all, insert}
use Rattle.std.proofs.lemmas.Bool.{le-leb}
use Rattle.std.proofs.lemmas.List.{take-map}
use Rattle.std.proofs.lemmas.List.Sums.{sum_by-take-drop}
use Rattle.jfs_bits.specs.declared.descriptor.Pxd.{Pxd}
use Rattle.jfs_name.specs.declared.name.NameEntry.{NameEntry}
use Rattle.jfs_dtpage.specs.declared.head.DtForm.TheVariants.{Root, Full}
use Rattle.jfs_dtpage.specs.Form.{free_of, count_of, is_leaf}
use Rattle.jfs_dtpage.specs.Order.{GoesAt, name_at}
use Rattle.jfs_dtpage.specs.Page.{Entry, Below, name_in, entries_of, names_of, IsDtPage}
use Rattle.jfs_dtpage.specs.Fill.{slots_of_entry, slots_in}
use Rattle.jfs_dtpage.proofs.Pages.{names_length}
use Rattle.jfs_dtpage.proofs.Joined.{names_listed}
use Rattle.jfs_dtpage.proofs.Filled.{filled}
use Rattle.jfs_tree.specs.Walk.{Child, Leaf, Inner}
use Rattle.jfs_tree.specs.Edit.{IsCons}
use Rattle.jfs_dtree.specs.Node.{named, below, child_within, dt_node, HasNoRoom}
use Rattle.jfs_dtree.proofs.Nodes.{leaf_is, leaf_read, inner_is, inner_read}
use Rattle.jfs_dtree.proofs.Lists.{goes_last}

pub copied_place : (root page : List ℕ) (place : ℕ) → IsDtPage Root root → place < count_of root → entries_of Full page ≡ take place (entries_of Root root) → GoesAt (names_of Full page) place (name_at (names_of Root root) place)
copied_place root page place sound h before =
    let names : names_of Full page ≡ take place (names_of Root root) = names_listed Full page ∙ ap (map name_in) before ∙ sym (take-map name_in place (entries_of Root root)) ∙ ap (take place) (sym (names_listed Root root)) in
    subst (λ (ns : List (List ℕ)). GoesAt ns place (name_at (names_of Root root) place)) (sym names) (goes_last (names_of Root root) place (let n = names_length Root root in omega (arith, n, h)) sound.1.1.1.1.0)

pub copied_room : (root page : List ℕ) (place : ℕ) → IsDtPage Root root → IsDtPage Full page → entries_of Full page ≡ take place (entries_of Root root) → 115 ≤ free_of page
copied_room root page place sound new before =
    let a = filled Root root sound in
    let b = filled Full page new in
    let c = ap slots_in before in
    let d = sum_by-take-drop slots_of_entry (entries_of Root root) place in
    omega (arith, a, b, c, d)

pub moved_room : (root page : List ℕ) → IsDtPage Root root → IsDtPage Full page → entries_of Full page ≡ entries_of Root root → HasNoRoom Full page → ⊥
moved_room root page sound new same full =
    let a = filled Root root sound in
    let b = filled Full page new in
    let c = ap slots_in same in
    let d = full.few in
    omega (arith, a, b, c, d)

pub moved_leaf : (blocks : ℕ) (root page : List ℕ) (es : List NameEntry) → IsDtPage Full page → entries_of Full page ≡ entries_of Root root → is_leaf page ≡ is_leaf root → dt_node Root blocks root ≡ Leaf es → dt_node Full blocks page ≡ Leaf es
moved_leaf blocks root page es new same kind is =
    let t = leaf_is Root blocks root es is in
    leaf_read Full blocks page new (kind ∙ t.1) ∙ ap (λ (z : List NameEntry). Leaf z) (ap (map named) same ∙ t.2)

pub moved_inner : (blocks : ℕ) (root page : List ℕ) (cs : List (Child (List ℕ))) → IsDtPage Full page → entries_of Full page ≡ entries_of Root root → is_leaf page ≡ is_leaf root → dt_node Root blocks root ≡ Inner cs → dt_node Full blocks page ≡ Inner cs
moved_inner blocks root page cs new same kind is =
    let t = inner_is Root blocks root cs is in
    inner_read Full blocks page new (kind ∙ t.1) (ap (list_all (child_within blocks)) same ∙ t.2) (subst IsCons (sym same) t.3) ∙ ap (λ (z : List (Child (List ℕ))). Inner z) (ap (map below) same ∙ t.4)

one_within : (blocks q : ℕ) → q < blocks → list_all (child_within blocks) (Below (record { len = 1; addr = q }) [] ∷ []) ≡ true
one_within blocks q h = rw (le-leb (q + 1) blocks (omega (arith, h))) refl

pub root_left : (blocks q : ℕ) (empty root : List ℕ) (at : Pxd) → IsDtPage Root root → is_leaf root ≡ false → entries_of Root empty ≡ [] → at ≡ record { len = 1; addr = q } → entries_of Root root ≡ insert (entries_of Root empty) 0 (Below at []) → q < blocks
    → dt_node Root blocks root ≡ Inner (record { key = []; page = q } ∷ [])
root_left blocks q empty root at sound kind none is entries h =
    let one : entries_of Root root ≡ Below (record { len = 1; addr = q }) [] ∷ [] = entries ∙ ap (λ (z : List Entry). insert z 0 (Below at [])) none ∙ ap (λ (p : Pxd). Below p [] ∷ []) is in
    inner_read Root blocks root sound kind (ap (list_all (child_within blocks)) one ∙ one_within blocks q h) (subst IsCons (sym one) tt) ∙ ap (λ (z : List Entry). Inner (map below z)) one
