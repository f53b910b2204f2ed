-- Keys between two leaves.
use Rattle.std.proofs.Common.{◌≡◌, ◌⊎◌, ◌-◌, inl, inr, refl, sym, ap, ◌∙◌, subst, ℕ, zero, suc, Bool, true, false, List, [], ◌∷◌, ◌++◌, length, map, Option, Some, ◌==◌, arith}
use Rattle.std.specs.List.{insert}
use Rattle.std.specs.Ordering.{nat_cmp, ordering_then}
use Rattle.std.specs.Cmp.{tied_itself, nat_cmp_total, ranked}
use Rattle.std.specs.Cmp.Lexicographic.{slice_cmp}
use Rattle.std.specs.declared.cmp.Ordering.{Ordering}
use Rattle.std.specs.declared.cmp.Ordering.TheVariants.{Less, Equal, Greater}
use Rattle.std.proofs.lemmas.Bool.{eq-eqb, true≢false}
use Rattle.std.proofs.lemmas.List.{map-append, length-map}
use Rattle.jfs_name.specs.declared.name.NameEntry.{NameEntry}
use Rattle.jfs_dtpage.specs.declared.head.DtForm.TheVariants.{Full}
use Rattle.jfs_dtpage.specs.Form.{is_leaf, count_of}
use Rattle.jfs_dtpage.specs.Order.{IsBefore, IsRising, GoesAt, name_at}
use Rattle.jfs_dtpage.specs.Page.{Named, name_in, entries_of, names_of}
use Rattle.jfs_dtpage.proofs.Pages.{names_length}
use Rattle.jfs_tree.specs.Walk.{Leaf, Rises, Row}
use Rattle.jfs_tree.specs.Edit.{IsCons, FitsFirst, with_entry}
use Rattle.jfs_tree.specs.Form.{SplitsRows}
use Rattle.jfs_dtree.specs.Node.{not_after, name_scale, named, dt_node}
use Rattle.jfs_dtree.specs.Laws.{next_of, next_after, before_up, name_refl}
use Rattle.jfs_dtree.specs.Parts.{ArePages, cut_key}
use Rattle.jfs_dtree.proofs.Nodes.{leaf_is, leaf_read}
use Rattle.jfs_dtree.proofs.Places.{row_names, row_names_are, placed_row}
use Rattle.jfs_dtree.proofs.Lists.{map_insert, goes_first}
use Rattle.jfs_dtree.proofs.Moves.{names_both, cons_some, entries_count, rising_more}

-- ---- a name that is cut

one_of : (b : Bool) → (b ≡ true) ⊎ (b ≡ false)
one_of true = inl refl
one_of false = inr refl

first_up : (unit : ℕ) (units : List ℕ) → not_after (unit ∷ []) (unit ∷ units) ≡ true
first_up unit [] = name_refl (unit ∷ [])
first_up unit (u ∷ units) = before_up (unit ∷ []) (unit ∷ u ∷ units) (ap (λ r. ordering_then r (slice_cmp nat_cmp [] (u ∷ units))) (tied_itself nat_cmp_total unit))

same_up : (unit : ℕ) (a b : List ℕ) → not_after a b ≡ true → not_after (unit ∷ a) (unit ∷ b) ≡ true
same_up unit a b h = rw (tied_itself nat_cmp_total unit) h

pub cut_up : (before name : List ℕ) → not_after (cut_key before name) name ≡ true
cut_up before [] = refl
cut_up [] (unit ∷ units) = name_refl (unit ∷ units)
cut_up (other ∷ before) (unit ∷ units) = elim (one_of (other == unit)) [
  | inl e ↦ rw e (same_up unit (cut_key before units) units (cut_up before units))
  | inr e ↦ rw e (first_up unit units)
]

then_less : (r s t : Ordering) → ordering_then r s ≡ Less → (r ≡ Equal → s ≡ Less → t ≡ Less) → ordering_then r t ≡ Less
then_less Less s t h f = refl
then_less Equal s t h f = f refl h
then_less Greater s t h f = absurd cc

pub cut_after : (before name : List ℕ) → IsBefore before name → IsBefore before (cut_key before name)
cut_after [] [] h = absurd cc
cut_after [] (unit ∷ units) h = refl
cut_after (other ∷ before) [] h = absurd cc
cut_after (other ∷ before) (unit ∷ units) h = elim (one_of (other == unit)) [
  | inl e ↦ rw e (then_less (nat_cmp other unit) (slice_cmp nat_cmp before units) (slice_cmp nat_cmp before (cut_key before units)) h (λ q l. cut_after before units l))
  | inr e ↦ rw e (then_less (nat_cmp other unit) (slice_cmp nat_cmp before units) (slice_cmp nat_cmp before []) h (λ q l. absurd (true≢false (sym (eq-eqb other unit (ranked other unit Equal (sym q))) ∙ e))))
]

-- ---- entries in two parts

fits_first : (key : List ℕ) (back : List NameEntry) → IsCons back → not_after key (name_at (row_names back) 0) ≡ true → (n : ℕ) (low : List ℕ) (high : Option (List ℕ)) → Rises name_scale low (map (Row n) back) high → Rises name_scale key (map (Row n) back) high
fits_first key [] some h n low high r = absurd some
fits_first key (b ∷ back) some h n low high r = (h, r.1)

parts : (front back : List NameEntry) (k : ℕ) (key : List ℕ) → suc k ≡ length front → IsCons back → not_after (next_of (name_at (row_names front) k)) key ≡ true → not_after key (name_at (row_names back) 0) ≡ true
    → (n : ℕ) (low : List ℕ) (high : Option (List ℕ)) → Rises name_scale low (map (Row n) (front ++ back)) high → Rises name_scale low (map (Row n) front) (Some key) × Rises name_scale key (map (Row n) back) high
parts [] back k key e some above fits n low high r = absurd (wrong k e)
  where
    wrong : (k : ℕ) → suc k ≡ 0 → ⊥
    wrong k e = omega (arith, e)
parts (f ∷ []) back zero key e some above fits n low high r = ((r.0, above), fits_first key back some fits n (next_of f.name) high r.1)
parts (f ∷ g ∷ front) back zero key e some above fits n low high r = absurd (wrong (length front) e)
  where
    wrong : (k : ℕ) → 1 ≡ suc (suc k) → ⊥
    wrong k e = omega (arith, e)
parts (f ∷ front) back (suc k) key e some above fits n low high r =
    let t = parts front back k key (omega (arith, e)) some above fits n (next_of f.name) high r.1 in
    ((r.0, t.0), t.1)

the_first : (key : List ℕ) (back : List NameEntry) → IsCons back → not_after key (name_at (row_names back) 0) ≡ true → FitsFirst name_scale key back
the_first key [] some h = absurd some
the_first key (b ∷ back) some h = h

pub cons_map : {X Y : Type 0} (f : X → Y) (xs : List X) → IsCons xs → IsCons (map f xs)
cons_map f [] c = absurd c
cons_map f (x ∷ xs) c = tt

-- a name joined a leaf, which is two leaves now
pub leaf_split : (blocks : ℕ) (old left right name key : List ℕ) (x : NameEntry) (inode place : ℕ) (es : List NameEntry) → dt_node Full blocks old ≡ Leaf es → name ≡ x.name → inode ≡ x.inode → GoesAt (names_of Full old) place name
    → ArePages (insert (entries_of Full old) place (Named inode name)) left right → is_leaf left ≡ is_leaf old → IsCons (entries_of Full left) → IsCons (entries_of Full right)
    → key ≡ cut_key (name_at (names_of Full left) (count_of left - 1)) (name_at (names_of Full right) 0)
    → SplitsRows name_scale (with_entry name_scale x es) (dt_node Full blocks left) (dt_node Full blocks right) key
leaf_split blocks old left right name key x inode place es leaf same number goes pages kind some more key_is =
    let t = leaf_is Full blocks old es leaf in
    let front = map named (entries_of Full left) in
    let back = map named (entries_of Full right) in
    let k = count_of left - 1 in
    let entry : named (Named inode name) ≡ x = rw (same, number) refl in
    let count : suc k ≡ length (names_of Full left) = (let a = cons_some (entries_of Full left) some in let b = entries_count Full left in let n = names_length Full left in omega (arith, a, b, n)) in
    let rows_count : suc k ≡ length front = count ∙ names_length Full left ∙ sym (entries_count Full left) ∙ sym (length-map (entries_of Full left) named) in
    let rising : IsRising (names_of Full left ++ names_of Full right) =
    subst IsRising (ap (map name_in) (sym pages.rows) ∙ names_both Full left right) (rising_more Full old place (Named inode name) t.0 goes) in
    let apart : IsBefore (name_at (names_of Full left) k) (name_at (names_of Full right) 0) =
    (goes_first (names_of Full left) (names_of Full right) k count rising).behind 0 (omega arith) (let a = cons_some (entries_of Full right) more in let b = entries_count Full right in let n = names_length Full right in omega (arith, a, b, n)) in
    let last : name_at (names_of Full left) k ≡ name_at (row_names front) k = ap (λ ns. name_at ns k) (row_names_are Full left) in
    let next : name_at (names_of Full right) 0 ≡ name_at (row_names back) 0 = ap (λ ns. name_at ns 0) (row_names_are Full right) in
    let above : not_after (next_of (name_at (row_names front) k)) key ≡ true =
    subst (λ l. not_after (next_of l) key ≡ true) last (subst (λ z. not_after (next_of (name_at (names_of Full left) k)) z ≡ true) (sym key_is)
    (next_after (name_at (names_of Full left) k) (cut_key (name_at (names_of Full left) k) (name_at (names_of Full right) 0)) (cut_after (name_at (names_of Full left) k) (name_at (names_of Full right) 0) apart))) in
    let fits : not_after key (name_at (row_names back) 0) ≡ true =
    subst (λ z. not_after z (name_at (row_names back) 0) ≡ true) (sym key_is) (subst (λ f. not_after (cut_key (name_at (names_of Full left) k) (name_at (names_of Full right) 0)) f ≡ true) next (cut_up (name_at (names_of Full left) k) (name_at (names_of Full right) 0))) in
    let cons = cons_map named (entries_of Full right) more in
    record {
      front = front;
      back = back;
      all = ap (with_entry name_scale x) (sym t.2) ∙ placed_row Full old name x place same goes ∙ ap (insert (map named (entries_of Full old)) place) (sym entry)
          ∙ sym (map_insert named (entries_of Full old) place (Named inode name)) ∙ ap (map named) (sym pages.rows) ∙ map-append named (entries_of Full left) (entries_of Full right);
      some = cons_map named (entries_of Full left) some;
      parts = record { rises = λ n low high r. parts front back k key rows_count cons above fits n low high r; fits = the_first key back cons fits };
      left_is = leaf_read Full blocks left pages.left_sound (kind ∙ t.1);
      right_is = leaf_read Full blocks right pages.right_sound (pages.kind ∙ kind ∙ t.1);
    }
