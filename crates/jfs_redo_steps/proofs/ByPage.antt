-- Edits by the pages that they change or free.
use Rattle.std.proofs.Common.{◌≡◌, ◌⊎◌, ◌<◌, ◌≤◌, ◌+◌, ◌&&◌, ◌||◌, not, nat_le, nat_lt, ℕ, suc, Bool, true, false, if◌then◌else◌, List, [], ◌∷◌, ◌++◌, length, take, drop, get_or, min, ◌==◌, refl, sym, ap, subst, ◌∙◌, inl, inr, arith}
use Rattle.std.specs.List.{filter, prefix_len}
use Rattle.std.specs.List.Sorted.{IsNonDecreasingBy, IsStableByKey, ties}
use Rattle.std.specs.Ordering.{nat_cmp, is_lt}
use Rattle.std.proofs.lemmas.Bool.{cases_eq, cases_lt, eq-eqb, ne_eqb, eqb-true, cond-true, cond-false, lt-ltb, le-ltb, le-leb, lt-leb}
use Rattle.std.proofs.lemmas.List.{map-append, append_assoc, append-nil}
use Rattle.std.proofs.lemmas.List.Elements.{filter-append, filter_agree}
use Rattle.jfs_ranges.specs.declared.edit.Edit.{Edit}
use Rattle.jfs_ranges.specs.Apply.{apply_edit, touches_edit}
use Rattle.jfs_ranges.proofs.Overlaid.{apply_edit-untouched, length-apply_edit}
use Rattle.jfs_records.specs.Redo.{is_noredo, redone}
use Rattle.jfs_redo_steps.specs.ByPage.{concerns, edits_of, edits_in, edits_at, HasMore, HasRange, RiseFrom}
use Rattle.jfs_redo_steps.specs.declared.index.PageEdit.{PageEdit}

-- ---- edits that neither change nor free a page leave it

pub own_edits_redo : (p : ℕ) (left now : List ℕ) (es : List Edit) → length left ≡ 4096 → length now ≡ 4096 → redone p left now (edits_of p es) ≡ redone p left now es
own_edits_redo p left now [] size is = refl
own_edits_redo p left now (e ∷ es) size is = at (touches_edit p e) (is_noredo p e) refl refl (λ n n_is. own_edits_redo p left n es size n_is)
  where
    at : (t f : Bool) → touches_edit p e ≡ t → is_noredo p e ≡ f → ((n : List ℕ) → length n ≡ 4096 → redone p left n (edits_of p es) ≡ redone p left n es)
        → redone p left now (if t || f then e ∷ edits_of p es else edits_of p es) ≡ redone p left (if f then left else apply_edit p e now) es
    at true true touched freed rest = ap (λ (a : List ℕ). redone p left a (edits_of p es)) (cond-true (is_noredo p e) left (apply_edit p e now) freed) ∙ rest left size
    at true false touched freed rest = ap (λ (a : List ℕ). redone p left a (edits_of p es)) (cond-false (is_noredo p e) left (apply_edit p e now) freed) ∙ rest (apply_edit p e now) (length-apply_edit p e now ∙ is)
    at false true touched freed rest = ap (λ (a : List ℕ). redone p left a (edits_of p es)) (cond-true (is_noredo p e) left (apply_edit p e now) freed) ∙ rest left size
    at false false touched freed rest = rest now is ∙ ap (λ (a : List ℕ). redone p left a es) (sym (apply_edit-untouched p e now is touched))

-- ---- edits that are added

abbrev edit_of : PageEdit → Edit
edit_of x = x.edit.now

abbrev pub is_at : ℕ → PageEdit → Bool
is_at p x = x.page == p

pub entries-append : (p : ℕ) (index more : List PageEdit) → edits_at p (index ++ more) ≡ edits_at p index ++ edits_at p more
entries-append p index more = ap edits_in (filter-append (is_at p) index more) ∙ map-append edit_of (filter (is_at p) index) (filter (is_at p) more)

pub no_range : (count first : ℕ) (e : Edit) (old : List PageEdit) → HasRange count first first e old old
no_range count first e old p low = at (cases_lt p first)
  where
    at : (p < first) ⊎ (first ≤ p) → edits_at p old ≡ edits_at p old ++ (if nat_le first p && nat_lt p first then e ∷ [] else [])
    at (inl l) = rw (lt-leb first p l) (sym (append-nil (edits_at p old)))
    at (inr l) = rw (le-leb first p l, le-ltb p first l) (sym (append-nil (edits_at p old)))

grow : (a b one : List Edit) (e : Edit) (le lt more : Bool) → le ≡ true → lt ≡ false → more ≡ true → a ≡ b ++ (if le && lt then e ∷ [] else []) → one ≡ e ∷ [] → a ++ one ≡ b ++ (if le && more then e ∷ [] else [])
grow a b one e le lt more p q r h o =
    let before : a ≡ b = (rw (p, q) at h) ∙ append-nil b in
    rw (p, r) (ap (λ (x : List Edit). x ++ one) before ∙ ap (λ (y : List Edit). b ++ y) o)

keep : (a b one : List Edit) (e : Edit) (le lt more : Bool) → more ≡ lt → a ≡ b ++ (if le && lt then e ∷ [] else []) → one ≡ [] → a ++ one ≡ b ++ (if le && more then e ∷ [] else [])
keep a b one e le lt more same h o = rw (same, o) (append-nil a ∙ h)

pub range_more : (count first at : ℕ) (e : Edit) (old now : List PageEdit) (x : PageEdit) → first ≤ at → x.page ≡ at → x.edit.now ≡ e → HasRange count first at e old now → HasRange count first (at + 1) e old (now ++ x ∷ [])
range_more count first at e old now x above page edit is p low = entries-append p now (x ∷ []) ∙ by (cases_eq x.page p)
  where
    by : (x.page ≡ p) ⊎ (x.page ≡ p → ⊥) → edits_at p now ++ edits_at p (x ∷ []) ≡ edits_at p old ++ (if nat_le first p && nat_lt p (at + 1) then e ∷ [] else [])
    by (inl here) =
        let one : edits_at p (x ∷ []) ≡ e ∷ [] = rw (eq-eqb x.page p here) (ap (λ (y : Edit). y ∷ []) edit) in
        grow (edits_at p now) (edits_at p old) (edits_at p (x ∷ [])) e (nat_le first p) (nat_lt p at) (nat_lt p (at + 1))
        (le-leb first p (omega (arith, above, page, here))) (le-ltb p at (omega (arith, page, here))) (lt-ltb p (at + 1) (omega (arith, page, here))) (is p low) one
    by (inr other) =
        let none : edits_at p (x ∷ []) ≡ [] = rw (ne_eqb x.page p other) refl in
        keep (edits_at p now) (edits_at p old) (edits_at p (x ∷ [])) e (nat_le first p) (nat_lt p at) (nat_lt p (at + 1)) (same (cases_lt p at)) (is p low) none
      where
        same : (p < at) ⊎ (at ≤ p) → nat_lt p (at + 1) ≡ nat_lt p at
        same (inl l) = lt-ltb p (at + 1) (omega (arith, l)) ∙ sym (lt-ltb p at l)
        same (inr l) = le-ltb p (at + 1) (omega (arith, l, page, other)) ∙ sym (le-ltb p at l)

pub whole_range : (count first end stop at : ℕ) (e : Edit) (old new : List PageEdit) → stop ≡ min end count → first ≤ at → stop ≤ at → (first < at → at ≤ stop) → HasRange count first at e old new → HasRange count first end e old new
whole_range count first end stop at e old new bound above ends within is p low = is p low ∙ ap (λ (t : Bool). edits_at p old ++ (if t then e ∷ [] else [])) (same (cases_lt p first))
  where
    in_range : first ≤ p → (p < end) ⊎ (end ≤ p) → nat_lt p at ≡ nat_lt p end
    in_range from (inl l) = lt-ltb p at (omega (arith, l, low, bound, ends)) ∙ sym (lt-ltb p end l)
    in_range from (inr l) = le-ltb p at (behind (cases_lt first at)) ∙ sym (le-ltb p end l)
      where
        behind : (first < at) ⊎ (at ≤ first) → at ≤ p
        behind (inl some) = let most : at ≤ stop = within some in omega (arith, most, l, bound)
        behind (inr none) = omega (arith, none, from)

    same : (p < first) ⊎ (first ≤ p) → (nat_le first p && nat_lt p at) ≡ (nat_le first p && nat_lt p end)
    same (inl l) = rw (lt-leb first p l) refl
    same (inr l) = ap (λ (t : Bool). nat_le first p && t) (in_range l (cases_lt p end))

-- what is added, and what is still to come
abbrev pub AreAdded : ℕ → List Edit → List Edit → List PageEdit → List PageEdit → Type 0
AreAdded count whole rest old now = (p : ℕ) → p < count → edits_at p now ++ edits_of p rest ≡ edits_at p old ++ edits_of p whole

pub added_on : (count : ℕ) (whole rest part more : List Edit) (old now new : List PageEdit) → rest ≡ part ++ more → AreAdded count whole rest old now → HasMore count part now new → AreAdded count whole more old new
added_on count whole rest part more old now new split before has p low =
    ap (λ (x : List Edit). x ++ edits_of p more) (has p low) ∙ append_assoc (edits_at p now) (edits_of p part) (edits_of p more)
    ∙ ap (λ (x : List Edit). edits_at p now ++ x) (sym (filter-append (concerns p) part more) ∙ ap (edits_of p) (sym split)) ∙ before p low

pub all_added : (count : ℕ) (whole rest : List Edit) (old new : List PageEdit) → rest ≡ [] → AreAdded count whole rest old new → HasMore count whole old new
all_added count whole rest old new none is p low = sym (append-nil (edits_at p new)) ∙ ap (λ (x : List Edit). edits_at p new ++ edits_of p x) (sym none) ∙ is p low

-- ---- once it is sorted

ties_at : (p q : ℕ) → (not (is_lt (nat_cmp p q)) && not (is_lt (nat_cmp q p))) ≡ (q == p)
ties_at p q = at (cases_lt p q) (cases_lt q p)
  where
    at : (p < q) ⊎ (q ≤ p) → (q < p) ⊎ (p ≤ q) → (not (is_lt (nat_cmp p q)) && not (is_lt (nat_cmp q p))) ≡ (q == p)
    at (inl l) x = rw (lt-ltb p q l) (sym (ne_eqb q p (λ e. omega (arith, l, e))))
    at (inr l) (inl m) =
        let apart : p ≡ q → ⊥ = λ e. omega (arith, m, e) in
        rw (le-ltb p q l, lt-ltb q p m, ne_eqb p q apart) (sym (ne_eqb q p (λ e. apart (sym e))))
    at (inr l) (inr m) =
        let same : p ≡ q = omega (arith, l, m) in
        rw (le-ltb p q l, le-ltb q p m, eq-eqb p q same, eq-eqb q p (sym same)) refl

pub sorted_entries : (index sorted : List PageEdit) → IsStableByKey (λ (x : PageEdit). x.page) nat_cmp index sorted → (p : ℕ) → (e : PageEdit) → e.page ≡ p → edits_at p sorted ≡ edits_at p index
sorted_entries index sorted stable p e page =
    ap edits_in (sym (filter_agree (ties (λ (x y : PageEdit). is_lt (nat_cmp x.page y.page)) e) (is_at p) tied sorted) ∙ stable e ∙ filter_agree (ties (λ (x y : PageEdit). is_lt (nat_cmp x.page y.page)) e) (is_at p) tied index)
  where
    tied : (x : PageEdit) → ties (λ (x y : PageEdit). is_lt (nat_cmp x.page y.page)) e x ≡ is_at p x
    tied x = ties_at e.page x.page ∙ ap (λ (n : ℕ). x.page == n) page

pub rising_from : (from : ℕ) (index : List PageEdit) → ((d : PageEdit) → 0 < length index → from ≤ (get_or index 0 d).page) → IsNonDecreasingBy (λ (x : PageEdit). x.page) index → RiseFrom from index
rising_from from [] first rise = tt
rising_from from (x ∷ index) first rise = (
  first x (omega arith),
  rising_from x.page index (λ d some. rise 0 1 d (omega arith) (omega (arith, some))) (λ i j d below within. rise (suc i) (suc j) d (omega (arith, below)) (omega (arith, within))),
)

-- ---- the first entries of an index are those of its first page

none_below : (p from : ℕ) (index : List PageEdit) → p < from → RiseFrom from index → edits_at p index ≡ []
none_below p from [] low rise = refl
none_below p from (x ∷ index) low rise =
    let other : (x.page == p) ≡ false = ne_eqb x.page p (λ e. omega (arith, e, rise.0, low)) in
    rw other (none_below p x.page index (omega (arith, rise.0, low)) rise.1)

abbrev pub firsts : ℕ → List PageEdit → ℕ
firsts p index = prefix_len (is_at p) index

one_more : (n : ℕ) → 1 + n ≡ suc n
one_more n = omega arith

pub first_own : (p : ℕ) (index : List PageEdit) → RiseFrom p index → edits_in (take (firsts p index) index) ≡ edits_at p index
first_own p [] rise = refl
first_own p (x ∷ index) rise = at (x.page == p) refl (λ e. first_own p index (subst (λ (n : ℕ). RiseFrom n index) e rise.1))
  where
    at : (t : Bool) → (x.page == p) ≡ t → (x.page ≡ p → edits_in (take (firsts p index) index) ≡ edits_at p index)
        → edits_in (take (if t then 1 + firsts p index else 0) (x ∷ index)) ≡ edits_in (if t then x ∷ filter (is_at p) index else filter (is_at p) index)
    at true same rest = ap (λ (n : ℕ). edits_in (take n (x ∷ index))) (one_more (firsts p index)) ∙ ap (λ (es : List Edit). x.edit.now ∷ es) (rest (eqb-true x.page p same))
    at false other rest = sym (none_below p x.page index (above (cases_eq x.page p)) rise.1)
      where
        above : (x.page ≡ p) ⊎ (x.page ≡ p → ⊥) → p < x.page
        above (inl e) = let yes : (x.page == p) ≡ true = eq-eqb x.page p e in let clash = sym other ∙ yes in cc
        above (inr n) = omega (arith, n, rise.0)

pub rest_rises : (p : ℕ) (index : List PageEdit) → RiseFrom p index → RiseFrom (p + 1) (drop (firsts p index) index)
rest_rises p [] rise = tt
rest_rises p (x ∷ index) rise = at (x.page == p) refl (λ e. rest_rises p index (subst (λ (n : ℕ). RiseFrom n index) e rise.1))
  where
    at : (t : Bool) → (x.page == p) ≡ t → (x.page ≡ p → RiseFrom (p + 1) (drop (firsts p index) index)) → RiseFrom (p + 1) (drop (if t then 1 + firsts p index else 0) (x ∷ index))
    at true same rest = subst (λ (n : ℕ). RiseFrom (p + 1) (drop n (x ∷ index))) (sym (one_more (firsts p index))) (rest (eqb-true x.page p same))
    at false other rest = (above (cases_eq x.page p), rise.1)
      where
        above : (x.page ≡ p) ⊎ (x.page ≡ p → ⊥) → p + 1 ≤ x.page
        above (inl e) = let yes : (x.page == p) ≡ true = eq-eqb x.page p e in let clash = sym other ∙ yes in cc
        above (inr n) = omega (arith, n, rise.0)

pub rest_others : (p q : ℕ) (index : List PageEdit) → p < q → edits_at q (drop (firsts p index) index) ≡ edits_at q index
rest_others p q [] low = refl
rest_others p q (x ∷ index) low = at (x.page == p) refl (rest_others p q index low)
  where
    at : (t : Bool) → (x.page == p) ≡ t → edits_at q (drop (firsts p index) index) ≡ edits_at q index → edits_at q (drop (if t then 1 + firsts p index else 0) (x ∷ index)) ≡ edits_at q (x ∷ index)
    at true same rest =
        let here = eqb-true x.page p same in
        let other : (x.page == q) ≡ false = ne_eqb x.page q (λ e. omega (arith, here, e, low)) in
        ap (λ (n : ℕ). edits_at q (drop n (x ∷ index))) (one_more (firsts p index)) ∙ rest ∙ rw other refl
    at false other rest = refl
