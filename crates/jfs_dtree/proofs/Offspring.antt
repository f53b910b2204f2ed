-- The first key of an inner page, which isn't looked at, and the place of one more child.
use Rattle.std.proofs.Common.{◌≡◌, ◌≤◌, ◌<◌, ◌⊎◌, ◌+◌, inl, inr, refl, sym, ap, ◌∙◌, subst, ℕ, zero, suc, Bool, true, false, List, [], ◌∷◌, ◌++◌, length, map, Some, if◌then◌else◌, Ok, arith}
use Rattle.std.specs.Prelude.{slice_get}
use Rattle.std.specs.List.{insert, remove}
use Rattle.std.specs.Ordering.{is_lt, nat_cmp}
use Rattle.std.specs.Cmp.{tied_itself}
use Rattle.std.specs.Cmp.Lexicographic.{slice_cmp, nat_list_cmp_total}
use Rattle.std.specs.declared.cmp.Ordering.{Ordering}
use Rattle.std.specs.declared.cmp.Ordering.TheVariants.{Less, Equal, Greater}
use Rattle.std.proofs.lemmas.Bool.{cases_lt, cases_eq}
use Rattle.std.proofs.lemmas.List.Sums.{sum_by-cons}
use Rattle.std.proofs.lemmas.Option.{same_Some}
use Rattle.jfs_bits.specs.declared.descriptor.Pxd.{Pxd}
use Rattle.jfs_dtpage.specs.declared.head.DtForm.{DtForm}
use Rattle.jfs_dtpage.specs.Form.{free_of}
use Rattle.jfs_dtpage.specs.Order.{IsBefore, IsRising, IsFound, GoesAt, name_at}
use Rattle.jfs_dtpage.specs.Page.{Entry, Named, Below, name_in, entries_of, names_of, IsDtPage}
use Rattle.jfs_dtpage.specs.Fill.{slots_of_entry, slots_in}
use Rattle.jfs_dtpage.proofs.Joined.{names_listed}
use Rattle.jfs_dtpage.proofs.Rising.{before_trans}
use Rattle.jfs_dtpage.proofs.Filled.{filled}
use Rattle.jfs_tree.specs.Walk.{Child}
use Rattle.jfs_tree.specs.Edit.{IsCons, KeysAbove, KeysRise}
use Rattle.jfs_dtree.specs.Node.{name_scale, below, dt_node}
use Rattle.jfs_dtree.specs.Laws.{before_of}
use Rattle.jfs_dtree.specs.Parts.{lowered, emptied}
use Rattle.jfs_tree.specs.Form.{AtPlace}
use Rattle.jfs_dtree.proofs.Nodes.{inner_is}
use Rattle.jfs_dtree.proofs.Moves.{small_entry}

-- ---- the first key made empty

first_low : (key : List ℕ) (es : List Entry) → IsCons es → slice_cmp nat_cmp (name_at (map name_in es) 0) key ≡ Less → es ≡ lowered key es
first_low key [] some h = absurd some
first_low key (e ∷ es) some h = rw h refl

pub stays_low : (form : DtForm) (bytes key found : List ℕ) (r : Ordering) → IsCons (entries_of form bytes) → found ≡ name_at (names_of form bytes) 0 → r ≡ slice_cmp nat_cmp found key → r ≡ Less → entries_of form bytes ≡ lowered key (entries_of form bytes)
stays_low form bytes key found r some is cmp less =
    first_low key (entries_of form bytes) some (subst (λ (ns : List (List ℕ)). slice_cmp nat_cmp (name_at ns 0) key ≡ Less) (names_listed form bytes) (subst (λ n. slice_cmp nat_cmp n key ≡ Less) is (sym cmp ∙ less)))

not_less : (r : Ordering) → (r ≡ Equal) ⊎ (r ≡ Greater) → is_lt r ≡ false
not_less r (inl e) = ap is_lt e
not_less r (inr e) = ap is_lt e

first_high : (key : List ℕ) (at : Pxd) (name : List ℕ) (es : List Entry) → slice_get es 0 ≡ Some (Below at name) → is_lt (slice_cmp nat_cmp (name_at (map name_in es) 0) key) ≡ false → insert (remove es 0) 0 (Below at []) ≡ lowered key es
first_high key at name [] is h = absurd cc
first_high key at name (e ∷ es) is h = rw h (ap (λ (z : Entry). emptied z ∷ es) (sym (same_Some e (Below at name) is)))

pub made_low : (form : DtForm) (bytes key found : List ℕ) (r : Ordering) (at : Pxd) → slice_get (entries_of form bytes) 0 ≡ Some (Below at (name_at (names_of form bytes) 0)) → found ≡ name_at (names_of form bytes) 0 → r ≡ slice_cmp nat_cmp found key
    → (r ≡ Equal) ⊎ (r ≡ Greater) → insert (remove (entries_of form bytes) 0) 0 (Below at []) ≡ lowered key (entries_of form bytes)
made_low form bytes key found r at first is cmp more =
    first_high key at (name_at (names_of form bytes) 0) (entries_of form bytes) first
    (subst (λ (ns : List (List ℕ)). is_lt (slice_cmp nat_cmp (name_at ns 0) key) ≡ false) (names_listed form bytes) (subst (λ n. is_lt (slice_cmp nat_cmp n key) ≡ false) is (ap is_lt (sym cmp) ∙ not_less r more)))

pub after_any : (a b : List ℕ) → IsBefore a b → IsBefore [] b
after_any [] [] h = absurd cc
after_any (x ∷ a) [] h = absurd cc
after_any a (y ∷ b) h = refl

least_goes : (es : List Entry) → IsRising (map name_in es) → GoesAt (map name_in (remove es 0)) 0 []
least_goes [] r = record { within = omega arith; before = λ i h. absurd (none i h); behind = λ i h l. absurd (none i l) }
  where
    none : (i : ℕ) → i < 0 → ⊥
    none i h = omega (arith, h)
least_goes (e ∷ es) r = record {
  within = omega arith;
  before = λ i h. absurd (none i h);
  behind = λ i h l. after_any (name_in e) (name_at (map name_in es) i) (r 0 (suc i) (omega arith) (omega (arith, l)));
}
  where
    none : (i : ℕ) → i < 0 → ⊥
    none i h = omega (arith, h)

pub low_goes : (form : DtForm) (old new : List ℕ) → IsDtPage form old → entries_of form new ≡ remove (entries_of form old) 0 → GoesAt (names_of form new) 0 []
low_goes form old new page entries =
    subst (λ (ns : List (List ℕ)). GoesAt ns 0 []) (sym (names_listed form new ∙ ap (map name_in) entries)) (least_goes (entries_of form old) (subst IsRising (names_listed form old) page.1.1.1.1.0))

fewer_slots : (es : List Entry) → IsCons es → suc (slots_in (remove es 0)) ≤ slots_in es
fewer_slots [] some = absurd some
fewer_slots (e ∷ es) some = let a = sum_by-cons slots_of_entry e es in omega (arith, a)

pub low_room : (form : DtForm) (old new : List ℕ) → IsDtPage form old → IsDtPage form new → IsCons (entries_of form old) → entries_of form new ≡ remove (entries_of form old) 0 → 1 ≤ free_of new
low_room form old new page sound some entries =
    let a = filled form old page in
    let b = filled form new sound in
    let c = ap slots_in entries in
    let d = fewer_slots (entries_of form old) some in
    omega (arith, a, b, c, d)

pub some_of : (es : List Entry) → 0 < length es → IsCons es
some_of [] h = absurd (none h)
  where
    none : 0 < 0 → ⊥
    none h = omega (arith, h)
some_of (e ∷ es) h = tt

-- ---- the place of a key

-- a key is past the name at a place, and before the next one
record Between (names : List (List ℕ)) (place : ℕ) (key : List ℕ) : Type 0 where
  within : place < length names
  above : IsBefore (name_at names place) key
  next : suc place < length names → IsBefore key (name_at names (suc place))

between_goes : (names : List (List ℕ)) (place : ℕ) (key : List ℕ) → IsRising names → Between names place key → GoesAt names (suc place) key
between_goes names place key r b = record {
  within = (let w = b.within in omega (arith, w));
  before = λ i h. elim (cases_eq i place) [
    | inl e ↦ subst (λ (k : ℕ). IsBefore (name_at names k) key) (sym e) b.above
    | inr o ↦ before_trans (name_at names i) (name_at names place) key (r i place (omega (arith, h, o)) b.within) b.above
  ];
  behind = λ i h l. elim (cases_eq i (suc place)) [
    | inl e ↦ subst (λ (k : ℕ). IsBefore key (name_at names k)) (sym e) (b.next (omega (arith, e, l)))
    | inr o ↦ before_trans key (name_at names (suc place)) (name_at names i) (b.next (omega (arith, h, l))) (r (suc place) i (omega (arith, h, o)) l)
  ];
}

pub below_key : (e : Entry) → (below e).key ≡ name_in e
below_key (Named inode name) = refl
below_key (Below at name) = refl

next_above : (key : List ℕ) (es : List Entry) → KeysAbove name_scale key (map below es) → 0 < length (map name_in es) → IsBefore key (name_at (map name_in es) 0)
next_above key [] k h = absurd (none h)
  where
    none : 0 < 0 → ⊥
    none h = omega (arith, h)
next_above key (e ∷ es) k h = subst (IsBefore key) (below_key e) (before_of key (below e).key k.0)

abbrev key_of : List (Child (List ℕ)) → List ℕ
key_of [] = []
key_of (c ∷ cs) = c.key

abbrev pub rest_of : List (Child (List ℕ)) → List (Child (List ℕ))
rest_of [] = []
rest_of (c ∷ cs) = cs

pub head_key : (e : Entry) (es : List Entry) (c : Child (List ℕ)) (cs : List (Child (List ℕ))) → map below (e ∷ es) ≡ c ∷ cs → name_in e ≡ c.key
head_key e es c cs is = sym (below_key e) ∙ ap key_of is

after_key : (key : List ℕ) (es : List Entry) (back : List (Child (List ℕ))) → map below es ≡ back → KeysAbove name_scale key back → 0 < length (map name_in es) → IsBefore key (name_at (map name_in es) 0)
after_key key es back is k h = next_above key es (subst (KeysAbove name_scale key) (sym is) k) h

between_below : (low : List ℕ) (es : List Entry) (front : List (Child (List ℕ))) (before child : Child (List ℕ)) (back : List (Child (List ℕ))) → map below es ≡ front ++ before ∷ back → KeysAbove name_scale low (front ++ before ∷ child ∷ back)
    → Between (map name_in es) (length front) child.key
between_below low [] [] before child back is k = absurd cc
between_below low [] (f ∷ front) before child back is k = absurd cc
between_below low (e ∷ es) [] before child back is k = record {
  within = omega arith;
  above = subst (λ (n : List ℕ). IsBefore n child.key) (sym (head_key e es before back is)) (before_of before.key child.key k.1.0);
  next = λ h. after_key child.key es back (ap rest_of is) k.1.1 (omega (arith, h));
}
between_below low (e ∷ es) (f ∷ front) before child back is k =
    let b = between_below f.key es front before child back (ap rest_of is) k.1 in
    record { within = (let w = b.within in omega (arith, w)); above = b.above; next = λ h. b.next (omega (arith, h)) }

pub name_lowered : (key : List ℕ) (e : Entry) → IsBefore [] key → IsBefore (name_in (if is_lt (slice_cmp nat_cmp (name_in e) key) then e else emptied e)) key
name_lowered key e some = either (is_lt (slice_cmp nat_cmp (name_in e) key)) refl
  where
    less : (r : Ordering) → is_lt r ≡ true → r ≡ Less
    less Less e = refl
    less Equal e = absurd cc
    less Greater e = absurd cc

    none : (e : Entry) → name_in (emptied e) ≡ []
    none (Named inode name) = refl
    none (Below at name) = refl

    either : (b : Bool) → is_lt (slice_cmp nat_cmp (name_in e) key) ≡ b → IsBefore (name_in (if b then e else emptied e)) key
    either true is = less (slice_cmp nat_cmp (name_in e) key) is
    either false is = subst (λ (n : List ℕ). IsBefore n key) (sym (none e)) some

between_low : (es : List Entry) (front : List (Child (List ℕ))) (before child : Child (List ℕ)) (back : List (Child (List ℕ))) → map below es ≡ front ++ before ∷ back → KeysRise name_scale (front ++ before ∷ child ∷ back)
    → Between (map name_in (lowered child.key es)) (length front) child.key
between_low [] [] before child back is k = absurd cc
between_low [] (f ∷ front) before child back is k = absurd cc
between_low (e ∷ es) [] before child back is k = record {
  within = omega arith;
  above = name_lowered child.key e (before_of [] child.key k.0);
  next = λ h. after_key child.key es back (ap rest_of is) k.1 (omega (arith, h));
}
between_low (e ∷ es) (f ∷ front) before child back is k =
    let b = between_below [] es front before child back (ap rest_of is) k in
    record { within = (let w = b.within in omega (arith, w)); above = b.above; next = λ h. b.next (omega (arith, h)) }

-- a child that is to stand behind the one at a place goes there
pub child_goes : (form : DtForm) (blocks : ℕ) (old mid : List ℕ) (place : ℕ) (child : Child (List ℕ)) (all : List (Child (List ℕ))) → AtPlace (dt_node form blocks old) place child all → KeysRise name_scale all → IsDtPage form mid
    → entries_of form mid ≡ lowered child.key (entries_of form old) → GoesAt (names_of form mid) (suc place) child.key
child_goes form blocks old mid place child all at rise sound entries =
    let t = inner_is form blocks old (at.front ++ at.before ∷ at.back) at.was in
    let names : names_of form mid ≡ map name_in (lowered child.key (entries_of form old)) = names_listed form mid ∙ ap (map name_in) entries in
    let b = between_low (entries_of form old) at.front at.before child at.back t.4 (subst (KeysRise name_scale) at.is rise) in
    subst (λ (p : ℕ). GoesAt (names_of form mid) (suc p) child.key) at.at
    (subst (λ (ns : List (List ℕ)). GoesAt ns (suc (length at.front)) child.key) (sym names) (between_goes (map name_in (lowered child.key (entries_of form old))) (length at.front) child.key (subst IsRising names sound.1.1.1.1.0) b))

-- the names still rise where the first one is made empty
low_rises : (key : List ℕ) (es : List Entry) → IsRising (map name_in es) → IsRising (map name_in (lowered key es))
low_rises key [] r = r
low_rises key (e ∷ es) r = by (is_lt (slice_cmp nat_cmp (name_in e) key))
  where
    none : (e : Entry) → name_in (emptied e) ≡ []
    none (Named inode name) = refl
    none (Below at name) = refl

    by : (b : Bool) → IsRising (map name_in ((if b then e else emptied e) ∷ es))
    by true i j h l = r i j h l
    by false zero zero h l = absurd (omega (arith, h))
    by false zero (suc j) h l = subst (λ n. IsBefore n (name_at (map name_in es) j)) (sym (none e)) (after_any (name_in e) (name_at (map name_in es) j) (r 0 (suc j) h l))
    by false (suc i) zero h l = absurd (omega (arith, h))
    by false (suc i) (suc j) h l = r (suc i) (suc j) h l

pub key_goes : (form : DtForm) (blocks : ℕ) (bytes : List ℕ) (place : ℕ) (child : Child (List ℕ)) (all : List (Child (List ℕ))) → AtPlace (dt_node form blocks bytes) place child all → KeysRise name_scale all
    → GoesAt (map name_in (lowered child.key (entries_of form bytes))) (suc place) child.key
key_goes form blocks bytes place child all at rise =
    let t = inner_is form blocks bytes (at.front ++ at.before ∷ at.back) at.was in
    let b = between_low (entries_of form bytes) at.front at.before child at.back t.4 (subst (KeysRise name_scale) at.is rise) in
    subst (λ (p : ℕ). GoesAt (map name_in (lowered child.key (entries_of form bytes))) (suc p) child.key) at.at
    (between_goes (map name_in (lowered child.key (entries_of form bytes))) (length at.front) child.key (low_rises child.key (entries_of form bytes) (subst IsRising (names_listed form bytes) t.0.1.1.1.1.0)) b)

not_itself : (a : List ℕ) → IsBefore a a → ⊥
not_itself a h = same (slice_cmp nat_cmp a a) h (tied_itself nat_list_cmp_total a)
  where
    same : (r : Ordering) → r ≡ Less → r ≡ Equal → ⊥
    same Less h e = cc
    same Equal h e = cc
    same Greater h e = cc

-- a name goes to one place alone
pub found_at : (names : List (List ℕ)) (p : ℕ) (key : List ℕ) → GoesAt names p key → (i : ℕ) → IsFound names key (Ok i) → ⊥
found_at names p key g i f = elim (cases_lt i p) [
  | inl h ↦ not_itself key (subst (λ (n : List ℕ). IsBefore n key) f.1 (g.before i h))
  | inr h ↦ not_itself key (subst (IsBefore key) f.1 (g.behind i h f.0))
]

pub goes_once : (names : List (List ℕ)) (p q : ℕ) (key : List ℕ) → GoesAt names p key → GoesAt names q key → q ≡ p
goes_once names p q key g f = elim (cases_eq q p) [
  | inl e ↦ e
  | inr o ↦ elim (cases_lt q p) [
    | inl h ↦ absurd (not_itself key (before_trans key (name_at names q) key (f.behind q (omega arith) (let w = g.within in omega (arith, w, h))) (g.before q h)))
    | inr h ↦ absurd (not_itself key (before_trans key (name_at names p) key (g.behind p (omega arith) (let w = f.within in omega (arith, w, h, o))) (f.before p (omega (arith, h, o)))))
  ]
]

-- ---- the slots of the first entry

pub low_small : (form : DtForm) (old new key : List ℕ) (at : Pxd) → IsDtPage form old → IsDtPage form new → slice_get (entries_of form old) 0 ≡ Some (Below at key) → length key ≤ 255 → entries_of form new ≡ insert (remove (entries_of form old) 0) 0 (Below at [])
    → free_of new ≤ free_of old + 17
low_small form old new key at page sound first few entries =
    let a = filled form old page in
    let b = filled form new sound in
    let c = ap slots_in entries in
    let d = one_less (entries_of form old) first in
    omega (arith, a, b, c, d)
  where
    one_less : (es : List Entry) → slice_get es 0 ≡ Some (Below at key) → slots_in es ≤ slots_in (insert (remove es 0) 0 (Below at [])) + 17
    one_less [] is = absurd cc
    one_less (e ∷ es) is =
        let a = sum_by-cons slots_of_entry e es in
        let b = sum_by-cons slots_of_entry (Below at []) es in
        let c = ap slots_of_entry (same_Some e (Below at key) is) in
        let d = small_entry (Below at key) few in
        omega (arith, a, b, c, d)

emptied_slots : (e : Entry) → slots_of_entry (emptied e) ≤ slots_of_entry e
emptied_slots (Named inode name) = omega arith
emptied_slots (Below at name) = omega arith

lowered_slots : (key : List ℕ) (es : List Entry) → slots_in (lowered key es) ≤ slots_in es
lowered_slots key [] = omega arith
lowered_slots key (e ∷ es) =
    let a = sum_by-cons slots_of_entry e es in
    let b = sum_by-cons slots_of_entry (if is_lt (slice_cmp nat_cmp (name_in e) key) then e else emptied e) es in
    let c = less (is_lt (slice_cmp nat_cmp (name_in e) key)) in
    omega (arith, a, b, c)
  where
    less : (b : Bool) → slots_of_entry (if b then e else emptied e) ≤ slots_of_entry e
    less true = omega arith
    less false = emptied_slots e

pub room_stays : (form : DtForm) (old mid key : List ℕ) → IsDtPage form old → IsDtPage form mid → entries_of form mid ≡ lowered key (entries_of form old) → free_of old ≤ free_of mid
room_stays form old mid key page sound entries =
    let a = filled form old page in
    let b = filled form mid sound in
    let c = ap slots_in entries in
    let d = lowered_slots key (entries_of form old) in
    omega (arith, a, b, c, d)
