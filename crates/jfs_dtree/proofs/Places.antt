-- Places of names among a leaf's entries.
use Rattle.std.proofs.Common.{◌≡◌, ◌≤◌, ◌<◌, inl, inr, refl, sym, ap, ◌∙◌, subst, ℕ, zero, suc, ◌/◌, ◌%◌, ◌==◌, true, false, List, [], ◌∷◌, length, map, Some, None, Ok, arith}
use Rattle.std.specs.Prelude.{slice_get}
use Rattle.std.specs.List.{insert}
use Rattle.std.proofs.lemmas.Bool.{true≢false}
use Rattle.std.proofs.lemmas.Cmp.{nat_list_cmp_total}
use Rattle.std.proofs.lemmas.List.{length-map}
use Rattle.jfs_name.specs.declared.name.NameEntry.{NameEntry}
use Rattle.jfs_dtpage.specs.declared.head.DtForm.{DtForm}
use Rattle.jfs_dtpage.specs.Form.{is_leaf, count_of, KeepsHead}
use Rattle.jfs_dtpage.specs.Order.{IsBefore, name_at, GoesAt, IsFound}
use Rattle.jfs_dtpage.specs.Page.{Entry, Named, Below, name_in, entries_of, names_of, IsDtPage}
use Rattle.jfs_dtpage.proofs.Pages.{names_length}
use Rattle.jfs_tree.specs.Walk.{Leaf}
use Rattle.jfs_tree.specs.Edit.{IsApart, with_entry, found_in}
use Rattle.jfs_dtree.specs.Node.{not_after, name_scale, named, dt_node}
use Rattle.jfs_dtree.specs.Laws.{next_of, longer, next_after, not_from}
use Rattle.jfs_dtpage.proofs.Joined.{names_listed}
use Rattle.jfs_dtree.proofs.Lists.{map_insert}
use Rattle.jfs_dtree.proofs.Nodes.{leaf_is, leaf_read}

-- ---- the names of a page are those of its entries

abbrev pub row_names : List NameEntry → List (List ℕ)
row_names es = map (λ (e : NameEntry). e.name) es

row_name : (e : Entry) → name_in e ≡ (named e).name
row_name (Named inode name) = refl
row_name (Below at key) = refl

rows_named : (entries : List Entry) → map name_in entries ≡ row_names (map named entries)
rows_named [] = refl
rows_named (e ∷ entries) = rw (row_name e, rows_named entries) refl

pub row_names_are : (form : DtForm) (bytes : List ℕ) → names_of form bytes ≡ row_names (map named (entries_of form bytes))
row_names_are form bytes = names_listed form bytes ∙ rows_named (entries_of form bytes)

-- ---- before and behind a name

pub before_trans : (a b c : List ℕ) → IsBefore a b → IsBefore b c → IsBefore a c
before_trans a b c p q = nat_list_cmp_total.trans a b c p q

pub reaches : (a b : List ℕ) → IsBefore a b → not_after (next_of b) a ≡ false
reaches a b h = not_from a (next_of b) (before_trans a b (next_of b) h (longer b))

pub itself : (a b : List ℕ) → a ≡ b → not_after (next_of a) b ≡ false
itself a b e = subst (λ c. not_after (next_of a) c ≡ false) e (not_from a (next_of a) (longer a))

none_before : (n : ℕ) → n < 0 → ⊥
none_before n h = omega (arith, h)

-- the entry of a name
here : (es : List NameEntry) (place : ℕ) (x : NameEntry) → ((i : ℕ) → i < place → IsBefore (name_at (row_names es) i) x.name) → place < length es → name_at (row_names es) place ≡ x.name → found_in name_scale x es ≡ slice_get es place
here [] place x before within is = absurd (none_before place within)
here (e ∷ es) zero x before within is = rw (itself e.name x.name is, itself x.name e.name (sym is)) refl
here (e ∷ es) (suc place) x before within is = rw (next_after e.name x.name (before 0 (omega arith))) (here es place x (λ i h. before (suc i) (omega (arith, h))) (omega (arith, within)) is)

-- no entry has the name
missing : (es : List NameEntry) (place : ℕ) (x : NameEntry) → ((i : ℕ) → i < place → IsBefore (name_at (row_names es) i) x.name) → ((i : ℕ) → place ≤ i → i < length es → IsBefore x.name (name_at (row_names es) i)) → found_in name_scale x es ≡ None
missing [] place x before behind = refl
missing (e ∷ es) zero x before behind = let b = behind 0 (omega arith) (omega arith) in rw (reaches x.name e.name b, next_after x.name e.name b) refl
missing (e ∷ es) (suc place) x before behind =
    rw (next_after e.name x.name (before 0 (omega arith))) (missing es place x (λ i h. before (suc i) (omega (arith, h))) (λ i h l. behind (suc i) (omega (arith, h)) (omega (arith, l))))

-- where it goes
placed : (es : List NameEntry) (place : ℕ) (x : NameEntry) → place ≤ length es → ((i : ℕ) → i < place → IsBefore (name_at (row_names es) i) x.name) → ((i : ℕ) → place ≤ i → i < length es → IsBefore x.name (name_at (row_names es) i))
    → with_entry name_scale x es ≡ insert es place x
placed [] zero x within before behind = refl
placed [] (suc place) x within before behind = absurd (omega (arith, within))
placed (e ∷ es) zero x within before behind = rw (reaches x.name e.name (behind 0 (omega arith) (omega arith))) refl
placed (e ∷ es) (suc place) x within before behind =
    rw (next_after e.name x.name (before 0 (omega arith)))
    (ap (λ rows. e ∷ rows) (placed es place x (omega (arith, within)) (λ i h. before (suc i) (omega (arith, h))) (λ i h l. behind (suc i) (omega (arith, h)) (omega (arith, l)))))

-- an entry of the same name isn't apart
clashes : (es : List NameEntry) (place : ℕ) (x : NameEntry) → place < length es → name_at (row_names es) place ≡ x.name → IsApart name_scale x es → ⊥
clashes [] place x within is apart = none_before place within
clashes (e ∷ es) zero x within is apart = elim apart.0 [
  | inl h ↦ true≢false (sym h ∙ itself e.name x.name is)
  | inr h ↦ true≢false (sym h ∙ itself x.name e.name (sym is))
]
clashes (e ∷ es) (suc place) x within is apart = clashes es place x (omega (arith, within)) is apart.1

-- ---- of a page

pub rows_length : (form : DtForm) (bytes : List ℕ) → length (map named (entries_of form bytes)) ≡ length (names_of form bytes)
rows_length form bytes = sym (ap length (row_names_are form bytes) ∙ length-map (map named (entries_of form bytes)) (λ (e : NameEntry). e.name))

pub at_row : (form : DtForm) (bytes : List ℕ) (i : ℕ) → name_at (names_of form bytes) i ≡ name_at (row_names (map named (entries_of form bytes))) i
at_row form bytes i = ap (λ names. name_at names i) (row_names_are form bytes)

pub place_within : (form : DtForm) (bytes name : List ℕ) (place : ℕ) → IsFound (names_of form bytes) name (Ok place) → place < count_of bytes
place_within form bytes name place found = let w = found.0 in omega (arith, w, names_length form bytes)

pub found_row : (form : DtForm) (blocks : ℕ) (bytes name : List ℕ) (x e : NameEntry) (place : ℕ) (es : List NameEntry) → dt_node form blocks bytes ≡ Leaf es → name ≡ x.name → IsFound (names_of form bytes) name (Ok place)
    → slice_get (map named (entries_of form bytes)) place ≡ Some e → Some e ≡ found_in name_scale x es
found_row form blocks bytes name x e place es leaf same found at =
    let page = leaf_is form blocks bytes es leaf in
    let rows = map named (entries_of form bytes) in
    let within = found.0 in
    sym (ap (found_in name_scale x) (sym page.2)
    ∙ here rows place x
    (λ i h. subst (λ n. IsBefore n x.name) (at_row form bytes i) (subst (λ n. IsBefore (name_at (names_of form bytes) i) n) (found.1 ∙ same) (page.0.1.1.1.1.0 i place h within)))
    (omega (arith, within, rows_length form bytes)) (sym (at_row form bytes place) ∙ found.1 ∙ same)
    ∙ at)

pub before_rows : (form : DtForm) (bytes name : List ℕ) (x : NameEntry) (place : ℕ) → name ≡ x.name → GoesAt (names_of form bytes) place name → (i : ℕ) → i < place → IsBefore (name_at (row_names (map named (entries_of form bytes))) i) x.name
before_rows form bytes name x place same goes i h = subst (λ n. IsBefore n x.name) (at_row form bytes i) (subst (λ n. IsBefore (name_at (names_of form bytes) i) n) same (goes.before i h))

pub behind_rows : (form : DtForm) (bytes name : List ℕ) (x : NameEntry) (place : ℕ) → name ≡ x.name → GoesAt (names_of form bytes) place name → (i : ℕ) → place ≤ i → i < length (map named (entries_of form bytes)) → IsBefore x.name (name_at (row_names (map named (entries_of form bytes))) i)
behind_rows form bytes name x place same goes i h l = subst (λ n. IsBefore x.name n) (at_row form bytes i) (subst (λ n. IsBefore n (name_at (names_of form bytes) i)) same (goes.behind i h (omega (arith, l, rows_length form bytes))))

pub missing_row : (form : DtForm) (blocks : ℕ) (bytes name : List ℕ) (x : NameEntry) (place : ℕ) (es : List NameEntry) → dt_node form blocks bytes ≡ Leaf es → name ≡ x.name → GoesAt (names_of form bytes) place name
    → None ≡ found_in name_scale x es
missing_row form blocks bytes name x place es leaf same goes =
    let page = leaf_is form blocks bytes es leaf in
    sym (ap (found_in name_scale x) (sym page.2) ∙ missing (map named (entries_of form bytes)) place x (before_rows form bytes name x place same goes) (behind_rows form bytes name x place same goes))

pub clash_row : (form : DtForm) (blocks : ℕ) (bytes name : List ℕ) (x : NameEntry) (place : ℕ) (es : List NameEntry) → name ≡ x.name → IsFound (names_of form bytes) name (Ok place) → dt_node form blocks bytes ≡ Leaf es → IsApart name_scale x es → ⊥
clash_row form blocks bytes name x place es same found leaf apart =
    let page = leaf_is form blocks bytes es leaf in
    let within = found.0 in
    clashes (map named (entries_of form bytes)) place x (omega (arith, within, rows_length form bytes)) (sym (at_row form bytes place) ∙ found.1 ∙ same) (subst (IsApart name_scale x) (sym page.2) apart)

pub placed_row : (form : DtForm) (bytes name : List ℕ) (x : NameEntry) (place : ℕ) → name ≡ x.name → GoesAt (names_of form bytes) place name → with_entry name_scale x (map named (entries_of form bytes)) ≡ insert (map named (entries_of form bytes)) place x
placed_row form bytes name x place same goes =
    let w = goes.within in
    placed (map named (entries_of form bytes)) place x (omega (arith, w, rows_length form bytes)) (before_rows form bytes name x place same goes) (behind_rows form bytes name x place same goes)

-- ---- a leaf that takes a name

pub leaf_put : (form : DtForm) (blocks : ℕ) (old new name : List ℕ) (x : NameEntry) (inode place : ℕ) (es : List NameEntry) → dt_node form blocks old ≡ Leaf es → name ≡ x.name → inode ≡ x.inode → GoesAt (names_of form old) place name
    → IsDtPage form new → entries_of form new ≡ insert (entries_of form old) place (Named inode name) → KeepsHead form old new → dt_node form blocks new ≡ Leaf (with_entry name_scale x es)
leaf_put form blocks old new name x inode place es leaf same number goes sound entries head =
    let page = leaf_is form blocks old es leaf in
    let kind : is_leaf new ≡ true = ap (λ (f : ℕ). f / 2 % 2 == 1) head.flag ∙ page.1 in
    let entry : named (Named inode name) ≡ x = rw (same, number) refl in
    leaf_read form blocks new sound kind
    ∙ ap (λ rows. Leaf rows) (ap (map named) entries ∙ map_insert named (entries_of form old) place (Named inode name) ∙ ap (insert (map named (entries_of form old)) place) entry
    ∙ sym (placed_row form old name x place same goes) ∙ ap (with_entry name_scale x) page.2)
