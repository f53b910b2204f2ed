-- A page that loses a name or a child.
use Rattle.std.proofs.Common.{◌≡◌, ◌<◌, refl, sym, ap, ◌∙◌, subst, ℕ, zero, suc, ◌==◌, ◌/◌, ◌%◌, Bool, true, false, List, [], ◌∷◌, ◌++◌, length, map, Some, Ok, arith}
use Rattle.std.specs.Prelude.{slice_get}
use Rattle.std.specs.List.{list_all, remove}
use Rattle.std.proofs.lemmas.Bool.{and_parts}
use Rattle.std.proofs.lemmas.Option.{same_Some}
use Rattle.std.proofs.lemmas.List.{length-append, length-map}
use Rattle.jfs_name.specs.declared.name.NameEntry.{NameEntry}
use Rattle.jfs_dtpage.specs.declared.head.DtForm.{DtForm}
use Rattle.jfs_dtpage.specs.Form.{is_leaf, count_of, KeepsHead}
use Rattle.jfs_dtpage.specs.Order.{IsFound}
use Rattle.jfs_dtpage.specs.Page.{Entry, entries_of, names_of, IsDtPage}
use Rattle.jfs_tree.specs.Walk.{Child, Node, Leaf, Inner, under}
use Rattle.jfs_tree.specs.Edit.{IsCons}
use Rattle.jfs_tree.specs.Shrink.{TakenOut}
use Rattle.jfs_tree.specs.Removal.{HasOthers, TakesRow, TakesChild, TellsSingle}
use Rattle.jfs_dtree.specs.Node.{name_scale, named, below, child_within, dt_node}
use Rattle.jfs_dtree.proofs.Leading.{entries_length}
use Rattle.jfs_dtree.proofs.Nodes.{leaf_is, leaf_read, inner_is, inner_read}
use Rattle.jfs_dtree.proofs.Places.{found_row}

-- ---- lists without one of theirs

pub map_without : {X Y : Type 0} (f : X → Y) (xs : List X) (i : ℕ) → map f (remove xs i) ≡ remove (map f xs) i
map_without f [] zero = refl
map_without f [] (suc i) = refl
map_without f (x ∷ xs) zero = refl
map_without f (x ∷ xs) (suc i) = ap (λ ys. f x ∷ ys) (map_without f xs i)

pub without_middle : {X : Type 0} (front : List X) (x : X) (back : List X) → remove (front ++ x ∷ back) (length front) ≡ front ++ back
without_middle [] x back = refl
without_middle (f ∷ front) x back = ap (λ ys. f ∷ ys) (without_middle front x back)

taken_at : (es : List NameEntry) (place : ℕ) (e : NameEntry) → slice_get es place ≡ Some e → TakenOut e es (remove es place)
taken_at [] place e is = absurd cc
taken_at (d ∷ es) zero e is = record { front = []; back = es; before = ap (λ x. x ∷ es) (same_Some d e is); after = refl }
taken_at (d ∷ es) (suc place) e is =
    let t = taken_at es place e is in
    record { front = d ∷ t.front; back = t.back; before = ap (λ xs. d ∷ xs) t.before; after = ap (λ xs. d ∷ xs) t.after }

all_without : (p : Entry → Bool) (xs : List Entry) (i : ℕ) → list_all p xs ≡ true → list_all p (remove xs i) ≡ true
all_without p [] zero h = h
all_without p [] (suc i) h = h
all_without p (x ∷ xs) zero h = (and_parts (p x) (list_all p xs) h).1
all_without p (x ∷ xs) (suc i) h = let t = and_parts (p x) (list_all p xs) h in rw (t.0, all_without p xs i t.1) refl

-- ---- a leaf

pub kind_kept : (form : DtForm) (old new : List ℕ) (b : Bool) → KeepsHead form old new → is_leaf old ≡ b → is_leaf new ≡ b
kind_kept form old new b head kind = ap (λ (f : ℕ). f / 2 % 2 == 1) head.flag ∙ kind

pub name_taken : (form : DtForm) (blocks : ℕ) (old new name : List ℕ) (x e : NameEntry) (place : ℕ) → name ≡ x.name → IsFound (names_of form old) name (Ok place) → slice_get (map named (entries_of form old)) place ≡ Some e
    → IsDtPage form new → entries_of form new ≡ remove (entries_of form old) place → KeepsHead form old new → TakesRow name_scale x (dt_node form blocks old) (dt_node form blocks new) (Some e)
name_taken form blocks old new name x e place same found at sound entries head es leaf =
    let page = leaf_is form blocks old es leaf in
    let t = taken_at (map named (entries_of form old)) place e at in (
      sym (found_row form blocks old name x e place es leaf same found at),
      (
        remove (map named (entries_of form old)) place,
        subst (λ rows. TakenOut e rows (remove (map named (entries_of form old)) place)) page.2 t,
        leaf_read form blocks new sound (kind_kept form old new true head page.1) ∙ ap Leaf (ap (map named) entries ∙ map_without named (entries_of form old) place),
      ),
    )

-- ---- how many entries a page has

pub single_is : (form : DtForm) (blocks count : ℕ) (bytes : List ℕ) (single : Bool) → count ≡ count_of bytes → single ≡ (count == 1) → TellsSingle (dt_node form blocks bytes) single
single_is form blocks count bytes single is tells = record {
  leaf = λ es leaf.
      let page = leaf_is form blocks bytes es leaf in
      tells ∙ ap (λ n. n == 1) (is ∙ sym (entries_length form bytes) ∙ sym (length-map (entries_of form bytes) named) ∙ ap length page.2);
  inner = λ cs inner.
      let page = inner_is form blocks bytes cs inner in
      tells ∙ ap (λ n. n == 1) (is ∙ sym (entries_length form bytes) ∙ sym (length-map (entries_of form bytes) below) ∙ ap length page.4);
}

pub bare_is : (form : DtForm) (blocks count : ℕ) (bytes : List ℕ) → count ≡ count_of bytes → (es : List NameEntry) → dt_node form blocks bytes ≡ Leaf es → (count == 0) ≡ (length es == 0)
bare_is form blocks count bytes is es leaf =
    let page = leaf_is form blocks bytes es leaf in
    ap (λ n. n == 0) (is ∙ sym (entries_length form bytes) ∙ sym (length-map (entries_of form bytes) named) ∙ ap length page.2)

-- ---- an inner page

middle_length : {X : Type 0} (front : List X) (x : X) (back : List X) → length front < length (front ++ x ∷ back)
middle_length front x back = let l = length-append front (x ∷ back) in omega (arith, l)

pub child_there : (form : DtForm) (blocks place : ℕ) (bytes : List ℕ) → HasOthers place (dt_node form blocks bytes) → IsDtPage form bytes × (place < count_of bytes)
child_there form blocks place bytes (front, t, back, is, at, some) =
    let page = inner_is form blocks bytes (front ++ t ∷ back) is in
    let l = ap length page.4 in
    let n = entries_length form bytes in
    let m = length-map (entries_of form bytes) below in
    let k = middle_length front t back in
    (page.0, omega (arith, l, n, m, k, at))

same_children : (cs ds : List (Child (List ℕ))) → cs ≡ ds → IsCons cs → IsCons ds
same_children cs ds e h = subst IsCons e h

from_map : (es : List Entry) → IsCons (map below es) → IsCons es
from_map [] h = h
from_map (e ∷ es) h = tt

pub child_taken : (form : DtForm) (blocks place : ℕ) (old new : List ℕ) → HasOthers place (dt_node form blocks old) → IsDtPage form new → entries_of form new ≡ remove (entries_of form old) place → KeepsHead form old new
    → TakesChild place (dt_node form blocks old) (dt_node form blocks new)
child_taken form blocks place old new (first, one, last, was, there, some) sound entries head front t back is at =
    let page = inner_is form blocks old (front ++ t ∷ back) is in
    let left : map below (entries_of form new) ≡ front ++ back =
    ap (map below) entries ∙ map_without below (entries_of form old) place ∙ ap (λ cs. remove cs place) page.4 ∙ ap (remove (front ++ t ∷ back)) (sym at) ∙ without_middle front t back in
    let lasting : front ++ back ≡ first ++ last =
    sym (without_middle front t back) ∙ ap (remove (front ++ t ∷ back)) at ∙ ap (λ cs. remove cs place) (same_inner (front ++ t ∷ back) (first ++ one ∷ last) (sym is ∙ was)) ∙ ap (remove (first ++ one ∷ last)) (sym there) ∙ without_middle first one last in
    let within : list_all (child_within blocks) (entries_of form new) ≡ true = ap (list_all (child_within blocks)) entries ∙ all_without (child_within blocks) (entries_of form old) place page.2 in (
      map below (entries_of form new),
      inner_read form blocks new sound (kind_kept form old new false head page.1) within (from_map (entries_of form new) (same_children (first ++ last) (map below (entries_of form new)) (sym (left ∙ lasting)) some)),
      ap length left,
      λ key. ap (under key) left,
    )
  where
    as_inner : List (Child (List ℕ)) → Node (List ℕ) NameEntry
    as_inner cs = Inner cs

    same_inner : (cs ds : List (Child (List ℕ))) → as_inner cs ≡ as_inner ds → cs ≡ ds
    same_inner cs ds e = cc
