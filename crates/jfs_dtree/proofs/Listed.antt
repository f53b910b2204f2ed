-- The list that a root spells, name by name.
use Rattle.std.proofs.Common.{◌≡◌, inl, inr, refl, sym, ap, ◌∙◌, subst, ℕ, suc, ◌+◌, true, List, [], ◌∷◌, ◌++◌, Option, Some, None, Ok, arith}
use Rattle.std.specs.Prelude.{⊤}
use Rattle.std.specs.Option.{option_map}
use Rattle.std.specs.Ordering.{nat_cmp, ordering_reverse}
use Rattle.std.specs.Cmp.Lexicographic.{slice_cmp}
use Rattle.std.specs.declared.cmp.Ordering.{Ordering}
use Rattle.std.specs.declared.cmp.Ordering.TheVariants.{Less, Equal, Greater}
use Rattle.std.proofs.lemmas.Bool.{true≢false}
use Rattle.std.proofs.lemmas.Cmp.{nat_list_cmp_total}
use Rattle.jfs_name.specs.declared.name.NameEntry.{NameEntry}
use Rattle.jfs_name.specs.Directory.{named, place_for, with_name}
use Rattle.jfs_dtpage.specs.Order.{IsBefore}
use Rattle.jfs_dtpage.proofs.Rising.{same_names, before_other}
use Rattle.jfs_tree.specs.Walk.{Node, Page, Key, Row, Fault, Marks, Rises, rows_of}
use Rattle.jfs_tree.specs.Spells.{spells, tree_of}
use Rattle.jfs_tree.specs.Edit.{Added, IsApart, found_in}
use Rattle.jfs_tree.proofs.Judge.{judged}
use Rattle.jfs_dtree.specs.Node.{not_after, name_scale}
use Rattle.jfs_dtree.specs.Laws.{next_of, longer, next_after, next_from, name_trans}
use Rattle.jfs_dtree.proofs.Places.{before_trans, reaches, itself}

-- ---- names that rise from a name on

unfoldable pub Ascends : List ℕ → List NameEntry → Type 0
Ascends low [] = ⊤
Ascends low (e ∷ es) = (not_after low e.name ≡ true) × Ascends (next_of e.name) es

ascends_lower : (a b : List ℕ) (es : List NameEntry) → not_after a b ≡ true → Ascends b es → Ascends a es
unfolding Ascends
ascends_lower a b [] h r = tt
ascends_lower a b (e ∷ es) h r = (name_trans a b e.name h r.0, r.1)

pub rises_ascends : (low : List ℕ) (ms : Marks (List ℕ) NameEntry) (high : Option (List ℕ)) → Rises name_scale low ms high → Ascends low (rows_of ms)
unfolding Ascends
rises_ascends low [] high r = tt
rises_ascends low (Page n ∷ ms) high r = rises_ascends low ms high r
rises_ascends low (Key n k ∷ ms) high r = ascends_lower low k (rows_of ms) r.0 (rises_ascends k ms high r.1)
rises_ascends low (Row n e ∷ ms) high r = (r.0, rises_ascends (next_of e.name) ms high r.1)
rises_ascends low (Fault n f ∷ ms) high r = absurd r

pub spelled_ascends : (pages : ℕ → Node (List ℕ) NameEntry) (root : Node (List ℕ) NameEntry) (es : List NameEntry) → spells name_scale pages root ≡ Ok es → Ascends [] es
unfolding spells
spelled_ascends pages root es h = let j = judged name_scale [] (tree_of name_scale pages root) es h in subst (Ascends []) j.1 (rises_ascends [] (tree_of name_scale pages root) None j.0)

-- ---- a name and those that come after it

pub next_before : (a b : List ℕ) → not_after (next_of a) b ≡ true → IsBefore a b
next_before a b h = by (slice_cmp nat_cmp a b) refl
  where
    by : (r : Ordering) → slice_cmp nat_cmp a b ≡ r → IsBefore a b
    by Less e = e
    by Equal e = absurd (true≢false (sym h ∙ itself a b (same_names a b e)))
    by Greater e = absurd (true≢false (sym h ∙ reaches b a (before_other a b e)))

pub before_next : (a b c : List ℕ) → IsBefore a b → not_after b c ≡ true → IsBefore a c
before_next a b c h g = next_before a c (name_trans (next_of a) b c (next_after a b h) g)

-- the comparison of an entry with a name that it comes after
pub turned : (a b : List ℕ) → IsBefore a b → slice_cmp nat_cmp b a ≡ Greater
turned a b h = nat_list_cmp_total.antisymm b a ∙ ap ordering_reverse h

none_named : (es : List NameEntry) (low x : List ℕ) → Ascends low es → IsBefore x low → named x es ≡ None
unfolding Ascends
none_named [] low x r h = refl
none_named (e ∷ es) low x r h =
    let b = before_next x low e.name h r.0 in
    rw (turned x e.name b) (none_named es (next_of e.name) x r.1 (before_trans x e.name (next_of e.name) b (longer e.name)))

all_behind : (es : List NameEntry) (low : List ℕ) (x : NameEntry) → Ascends low es → IsBefore x.name low → IsApart name_scale x es
unfolding Ascends
all_behind [] low x r h = tt
all_behind (e ∷ es) low x r h =
    let b = before_next x.name low e.name h r.0 in
    (inr (next_after x.name e.name b), all_behind es (next_of e.name) x r.1 (before_trans x.name e.name (next_of e.name) b (longer e.name)))

-- ---- what is found is what the name names

found_as : (es : List NameEntry) (low : List ℕ) (x : NameEntry) → Ascends low es → option_map (λ (e : NameEntry). e.inode) (found_in name_scale x es) ≡ named x.name es
unfolding Ascends
found_as [] low x r = refl
found_as (e ∷ es) low x r = by (slice_cmp nat_cmp e.name x.name) refl (found_as es (next_of e.name) x r.1)
  where
    by : (o : Ordering) → slice_cmp nat_cmp e.name x.name ≡ o → option_map (λ (e : NameEntry). e.inode) (found_in name_scale x es) ≡ named x.name es → option_map (λ (e : NameEntry). e.inode) (found_in name_scale x (e ∷ es)) ≡ named x.name (e ∷ es)
    by Less o rest = rw (next_after e.name x.name o, o) rest
    by Equal o rest = let same = same_names e.name x.name o in rw (itself e.name x.name same, itself x.name e.name (sym same), o) refl
    by Greater o rest =
        let b = before_other e.name x.name o in
        rw (reaches x.name e.name b, next_after x.name e.name b, o) (sym (none_named es (next_of e.name) x.name r.1 (before_trans x.name e.name (next_of e.name) b (longer e.name))))

pub found_named : (pages : ℕ → Node (List ℕ) NameEntry) (root : Node (List ℕ) NameEntry) (es : List NameEntry) (x : NameEntry) → spells name_scale pages root ≡ Ok es
    → option_map (λ (e : NameEntry). e.inode) (found_in name_scale x es) ≡ named x.name es
found_named pages root es x h = found_as es [] x (spelled_ascends pages root es h)

-- a name that isn't there is apart from all
apart_from : (es : List NameEntry) (low : List ℕ) (x : NameEntry) → Ascends low es → named x.name es ≡ None → IsApart name_scale x es
unfolding Ascends
apart_from [] low x r h = tt
apart_from (e ∷ es) low x r h = by (slice_cmp nat_cmp e.name x.name) refl (apart_from es (next_of e.name) x r.1)
  where
    by : (o : Ordering) → slice_cmp nat_cmp e.name x.name ≡ o → (named x.name es ≡ None → IsApart name_scale x es) → IsApart name_scale x (e ∷ es)
    by Less o rest = (inl (next_after e.name x.name o), rest (rw o at h))
    by Equal o rest = let none : Some e.inode ≡ None = rw o at h in absurd cc
    by Greater o rest =
        let b = before_other e.name x.name o in
        (inr (next_after x.name e.name b), all_behind es (next_of e.name) x r.1 (before_trans x.name e.name (next_of e.name) b (longer e.name)))

pub apart_named : (pages : ℕ → Node (List ℕ) NameEntry) (root : Node (List ℕ) NameEntry) (es : List NameEntry) (x : NameEntry) → spells name_scale pages root ≡ Ok es → named x.name es ≡ None → IsApart name_scale x es
apart_named pages root es x h n = apart_from es [] x (spelled_ascends pages root es h) n

-- ---- the place of a new name

pub reach : (front back : List NameEntry) (x : NameEntry) (low : List ℕ) → Ascends low (front ++ x ∷ back) → not_after low x.name ≡ true
unfolding Ascends
reach [] back x low r = r.0
reach (f ∷ front) back x low r = name_trans low f.name x.name r.0 (next_from f.name x.name (reach front back x (next_of f.name) r.1))

pub one_next : (n : ℕ) → 1 + n ≡ suc n
one_next n = omega arith

insert_at : (front back : List NameEntry) (x : NameEntry) (low : List ℕ) → Ascends low (front ++ x ∷ back) → with_name x (front ++ back) ≡ front ++ x ∷ back
unfolding Ascends
insert_at [] [] x low r = refl
insert_at [] (b ∷ back) x low r = rw (turned x.name b.name (next_before x.name b.name r.1.0)) refl
insert_at (f ∷ front) back x low r =
    let n = place_for x.name (front ++ back) in
    rw (next_before f.name x.name (reach front back x (next_of f.name) r.1), one_next n) (ap (λ es. f ∷ es) (insert_at front back x (next_of f.name) r.1))

pub added_as : (pages : ℕ → Node (List ℕ) NameEntry) (root : Node (List ℕ) NameEntry) (es list : List NameEntry) (x : NameEntry) → spells name_scale pages root ≡ Ok list → Added x es list → list ≡ with_name x es
added_as pages root es list x h added =
    added.after ∙ sym (ap (with_name x) added.before ∙ insert_at added.front added.back x [] (subst (Ascends []) added.after (spelled_ascends pages root list h)))
