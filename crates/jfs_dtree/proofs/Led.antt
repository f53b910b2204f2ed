-- Names of which one is led to another inode.
use Rattle.std.proofs.Common.{◌≡◌, ◌<◌, ◌⊎◌, inl, inr, refl, sym, ap, ◌∙◌, subst, ℕ, zero, suc, Bool, true, false, ◌==◌, if◌then◌else◌, List, [], ◌∷◌, length, map, Option, Some, None, arith}
use Rattle.std.specs.Prelude.{slice_get, slice_set}
use Rattle.std.specs.Ordering.{is_eq, nat_cmp}
use Rattle.std.specs.Cmp.{tied_itself}
use Rattle.std.specs.Cmp.Lexicographic.{slice_cmp}
use Rattle.std.specs.declared.cmp.Ordering.{Ordering}
use Rattle.std.specs.declared.cmp.Ordering.TheVariants.{Less, Equal, Greater}
use Rattle.std.proofs.lemmas.Bool.{eq-eqb}
use Rattle.std.proofs.lemmas.Cmp.{nat_list_cmp_total}
use Rattle.jfs_name.specs.declared.name.NameEntry.{NameEntry}
use Rattle.jfs_name.specs.Directory.{is_same, place_of, set_inode, with_inode}
use Rattle.jfs_dtpage.specs.Order.{IsBefore, name_at}
use Rattle.jfs_dtpage.proofs.Rising.{same_names, before_other}
use Rattle.jfs_tree.specs.Walk.{Page, Key, Row, Fault, Marks, Rises, rows_of}
use Rattle.jfs_tree.specs.Edit.{found_in}
use Rattle.jfs_dtree.specs.Node.{not_after, name_scale}
use Rattle.jfs_dtree.specs.Laws.{next_of, longer, next_after, next_from, name_trans}
use Rattle.jfs_dtree.specs.Replacing.{led}
use Rattle.jfs_dtree.proofs.Places.{row_names, before_trans, reaches}
use Rattle.jfs_dtree.proofs.Listed.{Ascends, next_before, before_next, turned, one_next}
use Rattle.jfs_dtree.proofs.Swapped.{KeepsPlaces, swap_marks}

-- ---- one entry

pub led_name : (name : List ℕ) (inode : ℕ) (e : NameEntry) → (led name inode e).name ≡ e.name
led_name name inode e = by (is_same e.name name)
  where
    by : (b : Bool) → (let r : NameEntry = if b then record e { inode = inode } else e in r.name) ≡ e.name
    by true = refl
    by false = refl

led_not : (name : List ℕ) (inode : ℕ) (e : NameEntry) → is_same e.name name ≡ false → led name inode e ≡ e
led_not name inode e h = rw h refl

not_less : (a b : List ℕ) → IsBefore a b → is_same a b ≡ false
not_less a b h = ap is_eq h

not_more : (a b : List ℕ) → IsBefore b a → is_same a b ≡ false
not_more a b h = ap is_eq (turned b a h)

same_is : (a b : List ℕ) → a ≡ b → is_same a b ≡ true
same_is a b e = ap (λ c. is_same c b) e ∙ ap is_eq (tied_itself nat_list_cmp_total b)

-- the entries of one page alone are led
abbrev pub picked : {E : Type 0} → (E → E) → Bool → E → E
picked f true e = f e
picked f false e = e

abbrev pub led_at : List ℕ → ℕ → ℕ → ℕ → NameEntry → NameEntry
led_at name inode n m e = picked (led name inode) (m == n) e

picked_name : (name : List ℕ) (inode : ℕ) (b : Bool) (e : NameEntry) → (picked (led name inode) b e).name ≡ e.name
picked_name name inode true e = led_name name inode e
picked_name name inode false e = refl

picked_not : (name : List ℕ) (inode : ℕ) (b : Bool) (e : NameEntry) → is_same e.name name ≡ false → picked (led name inode) b e ≡ e
picked_not name inode true e h = led_not name inode e h
picked_not name inode false e h = refl

pub led_keeps : (name : List ℕ) (inode n : ℕ) → KeepsPlaces name_scale (led_at name inode n)
led_keeps name inode n = record {
  from = λ m e. picked_name name inode (m == n) e;
  to = λ m e. ap next_of (picked_name name inode (m == n) e);
  fits = λ m k e. ap (not_after k) (picked_name name inode (m == n) e);
}

-- ---- a list that rises

behind_led : (name : List ℕ) (inode : ℕ) (es : List NameEntry) (low : List ℕ) → Ascends low es → IsBefore name low → map (led name inode) es ≡ es
unfolding Ascends
behind_led name inode [] low r h = refl
behind_led name inode (e ∷ es) low r h =
    let b = before_next name low e.name h r.0 in
    ap (λ d. d ∷ map (led name inode) es) (led_not name inode e (not_more e.name name b)) ∙ ap (λ ds. e ∷ ds) (behind_led name inode es (next_of e.name) r.1 (before_trans name e.name (next_of e.name) b (longer e.name)))

set_behind : (inode : ℕ) (e : NameEntry) (es : List NameEntry) (place : ℕ) (o : Option NameEntry) → set_inode inode (e ∷ es) (suc place) o ≡ e ∷ set_inode inode es place o
set_behind inode e es place None = refl
set_behind inode e es place (Some d) = refl

pub inode_led : (name : List ℕ) (inode : ℕ) (es : List NameEntry) (low : List ℕ) → Ascends low es → with_inode name inode es ≡ map (led name inode) es
unfolding Ascends
inode_led name inode [] low r = refl
inode_led name inode (e ∷ es) low r = by (slice_cmp nat_cmp e.name name) refl (inode_led name inode es (next_of e.name) r.1)
  where
    other : is_same e.name name ≡ false → with_inode name inode es ≡ map (led name inode) es → with_inode name inode (e ∷ es) ≡ map (led name inode) (e ∷ es)
    other differs rest = rw (differs, one_next (place_of name es)) (set_behind inode e es (place_of name es) (slice_get es (place_of name es)) ∙ ap (λ ds. e ∷ ds) rest)

    by : (o : Ordering) → slice_cmp nat_cmp e.name name ≡ o → with_inode name inode es ≡ map (led name inode) es → with_inode name inode (e ∷ es) ≡ map (led name inode) (e ∷ es)
    by Less o rest = other (ap is_eq o) rest
    by Equal o rest =
        let same = same_names e.name name o in
        let first : IsBefore name (next_of e.name) = subst (λ n. IsBefore n (next_of e.name)) same (longer e.name) in
        rw (same_is e.name name same) (ap (λ ds. record e { inode = inode } ∷ ds) (sym (behind_led name inode es (next_of e.name) r.1 first)))
    by Greater o rest = other (ap is_eq o) rest

-- ---- a leaf, by places

past_led : (name : List ℕ) (inode : ℕ) (es : List NameEntry) → ((i : ℕ) → i < length es → IsBefore name (name_at (row_names es) i)) → map (led name inode) es ≡ es
past_led name inode [] h = refl
past_led name inode (e ∷ es) h =
    ap (λ d. d ∷ map (led name inode) es) (led_not name inode e (not_more e.name name (h 0 (omega arith)))) ∙ ap (λ ds. e ∷ ds) (past_led name inode es (λ i l. h (suc i) (omega (arith, l))))

none_before : (n : ℕ) → n < 0 → ⊥
none_before n h = omega (arith, h)

pub set_led : (name : List ℕ) (inode : ℕ) (es : List NameEntry) (place : ℕ) → place < length es → ((i : ℕ) → i < place → IsBefore (name_at (row_names es) i) name) → name_at (row_names es) place ≡ name
    → ((i : ℕ) → place < i → i < length es → IsBefore name (name_at (row_names es) i)) → slice_set es place (record { name = name; inode = inode }) ≡ map (led name inode) es
set_led name inode [] place within before is behind = absurd (none_before place within)
set_led name inode (e ∷ es) zero within before is behind =
    rw (same_is e.name name is)
    (ap (λ (n : List ℕ). (let d : NameEntry = record { name = n; inode = inode } in d ∷ es)) (sym is) ∙ ap (λ ds. record e { inode = inode } ∷ ds) (sym (past_led name inode es (λ i l. behind (suc i) (omega arith) (omega (arith, l))))))
set_led name inode (e ∷ es) (suc place) within before is behind =
    rw (not_less e.name name (before 0 (omega arith)))
    (ap (λ ds. e ∷ ds) (set_led name inode es place (omega (arith, within)) (λ i h. before (suc i) (omega (arith, h))) is (λ i h l. behind (suc i) (omega (arith, h)) (omega (arith, l)))))

pub past_missing : (name : List ℕ) (inode : ℕ) (es : List NameEntry) → ((i : ℕ) → i < length es → is_same (name_at (row_names es) i) name ≡ false) → map (led name inode) es ≡ es
past_missing name inode [] h = refl
past_missing name inode (e ∷ es) h = ap (λ d. d ∷ map (led name inode) es) (led_not name inode e (h 0 (omega arith))) ∙ ap (λ ds. e ∷ ds) (past_missing name inode es (λ i l. h (suc i) (omega (arith, l))))

pub before_not : (a b : List ℕ) → IsBefore a b → is_same a b ≡ false
before_not a b h = not_less a b h

pub after_not : (a b : List ℕ) → IsBefore b a → is_same a b ≡ false
after_not a b h = not_more a b h

-- ---- the rows of a tree

-- one of the rows of a page is such an entry
abbrev pub HasRow : {P E : Type 0} → (E → Type 0) → ℕ → Marks P E → Type 0
HasRow p n [] = ⊥
HasRow p n (Page m ∷ ms) = HasRow p n ms
HasRow p n (Key m k ∷ ms) = HasRow p n ms
HasRow p n (Row m e ∷ ms) = ((m ≡ n) × p e) ⊎ HasRow p n ms
HasRow p n (Fault m r ∷ ms) = HasRow p n ms

abbrev pub Has : List ℕ → NameEntry → Type 0
Has name e = e.name ≡ name

module _ (name : List ℕ) (inode n : ℕ) where
  rows_behind : (low : List ℕ) (ms : Marks (List ℕ) NameEntry) (high : Option (List ℕ)) → Rises name_scale low ms high → IsBefore name low → rows_of (swap_marks (led_at name inode n) ms) ≡ map (led name inode) (rows_of ms)
  rows_behind low [] high r h = refl
  rows_behind low (Page m ∷ ms) high r h = rows_behind low ms high r h
  rows_behind low (Key m k ∷ ms) high r h = rows_behind k ms high r.1 (before_next name low k h r.0)
  rows_behind low (Row m e ∷ ms) high r h =
      let b = before_next name low e.name h r.0 in
      let not = not_more e.name name b in
      ap (λ d. d ∷ rows_of (swap_marks (led_at name inode n) ms)) (picked_not name inode (m == n) e not ∙ sym (led_not name inode e not))
      ∙ ap (λ ds. led name inode e ∷ ds) (rows_behind (next_of e.name) ms high r.1 (before_trans name e.name (next_of e.name) b (longer e.name)))
  rows_behind low (Fault m f ∷ ms) high r h = absurd r

  reach_row : (low : List ℕ) (ms : Marks (List ℕ) NameEntry) (high : Option (List ℕ)) → Rises name_scale low ms high → HasRow (Has name) n ms → not_after low name ≡ true
  reach_row low [] high r has = absurd has
  reach_row low (Page m ∷ ms) high r has = reach_row low ms high r has
  reach_row low (Key m k ∷ ms) high r has = name_trans low k name r.0 (reach_row k ms high r.1 has)
  reach_row low (Row m e ∷ ms) high r (inl (at, is)) = subst (λ b. not_after low b ≡ true) is r.0
  reach_row low (Row m e ∷ ms) high r (inr has) = name_trans low e.name name r.0 (next_from e.name name (reach_row (next_of e.name) ms high r.1 has))
  reach_row low (Fault m f ∷ ms) high r has = absurd r

  -- where the name stands on the page whose entries are led, that is the list with the name led
  pub rows_led : (low : List ℕ) (ms : Marks (List ℕ) NameEntry) (high : Option (List ℕ)) → Rises name_scale low ms high → HasRow (Has name) n ms → rows_of (swap_marks (led_at name inode n) ms) ≡ map (led name inode) (rows_of ms)
  rows_led low [] high r has = absurd has
  rows_led low (Page m ∷ ms) high r has = rows_led low ms high r has
  rows_led low (Key m k ∷ ms) high r has = rows_led k ms high r.1 has
  rows_led low (Row m e ∷ ms) high r (inl (at, is)) =
      ap (λ b. picked (led name inode) b e ∷ rows_of (swap_marks (led_at name inode n) ms)) (eq-eqb m n at)
      ∙ ap (λ ds. led name inode e ∷ ds) (rows_behind (next_of e.name) ms high r.1 (subst (λ a. IsBefore a (next_of e.name)) is (longer e.name)))
  rows_led low (Row m e ∷ ms) high r (inr has) =
      let not = not_less e.name name (next_before e.name name (reach_row (next_of e.name) ms high r.1 has)) in
      ap (λ d. d ∷ rows_of (swap_marks (led_at name inode n) ms)) (picked_not name inode (m == n) e not ∙ sym (led_not name inode e not))
      ∙ ap (λ ds. led name inode e ∷ ds) (rows_led (next_of e.name) ms high r.1 has)
  rows_led low (Fault m f ∷ ms) high r has = absurd r

-- ---- an entry that is found is there

abbrev pub AnyOf : {E : Type 0} → (E → Type 0) → List E → Type 0
AnyOf p [] = ⊥
AnyOf p (e ∷ es) = p e ⊎ AnyOf p es

pub found_any : (es : List NameEntry) (x e : NameEntry) → found_in name_scale x es ≡ Some e → AnyOf (Has x.name) es
found_any [] x e h = cc
found_any (d ∷ es) x e h = by (slice_cmp nat_cmp d.name x.name) refl (found_any es x e)
  where
    by : (o : Ordering) → slice_cmp nat_cmp d.name x.name ≡ o → (found_in name_scale x es ≡ Some e → AnyOf (Has x.name) es) → AnyOf (Has x.name) (d ∷ es)
    by Less o rest = inr (rest (rw (next_after d.name x.name o) at h))
    by Equal o rest = inl (same_names d.name x.name o)
    by Greater o rest =
        let b = before_other d.name x.name o in
        let none : None ≡ Some e = rw (reaches x.name d.name b, next_after x.name d.name b) at h in absurd cc
