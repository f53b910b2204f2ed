-- What a search finds among dirty pages, and what an edit at that place does.
use Rattle.std.proofs.Common.{◌≡◌, ◌≢◌, ℕ, zero, suc, ◌+◌, ◌-◌, ◌<◌, ◌≤◌, eqb, List, [], ◌∷◌, length, get_or, set, if◌then◌else◌, Option, Some, None, IfSome, slice_get, Result, Ok, Err, IfOk, IfErr, refl, sym, ap, ◌∙◌, subst, arith}
use Rattle.std.specs.List.{insert, remove}
use Rattle.std.specs.List.Sorted.{IsSearchInRange, IsBinarySearchResult, IsNonDecreasingBy}
use Rattle.std.specs.Ordering.{nat_cmp, ordering_index}
use Rattle.std.proofs.lemmas.Cmp.{ranked}
use Rattle.std.proofs.lemmas.Option.{slice_get_within, get_or_from_slice_get}
use Rattle.std.proofs.lemmas.List.Sorted.{IsNonDecreasingBy-from_default}
use Rattle.std.proofs.lemmas.List.Edits.{length-insert, get_or-insert_below, get_or-insert_at, get_or-insert_above, length-remove, get_or-remove_below, get_or-remove_above}
use Rattle.std.proofs.lemmas.Bool.Decides.{nat_tests}
use Rattle.std.proofs.lemmas.Grind.{common_steps}
use Rattle.jfs_pages.specs.declared.dirty.Dirty.{Dirty}
use Rattle.jfs_pages.specs.Dirty.{dirty_of, no_dirty, page_at, IsRising}
use Rattle.jfs_pages.specs.Room.{IsAt, IsGapFor}

-- no page before place i has the number
abbrev NoneBefore : List Dirty → ℕ → ℕ → Type 0
NoneBefore l n i = (j : ℕ) → j < i → page_at l j ≢ n

none_before_tail : (x : Dirty) (l : List Dirty) (n i : ℕ) → NoneBefore (x ∷ l) n (suc i) → NoneBefore l n i
none_before_tail x l n i none j lt = none (suc j) (omega arith)

is_at_tail : (x : Dirty) (l : List Dirty) (n i : ℕ) → IsAt (x ∷ l) n (suc i) → IsAt l n i
is_at_tail x l n i at = record { in_range = omega (arith, at.in_range); has_page = at.has_page }

-- ---- by recursion

dirty_of_absent : (l : List Dirty) (n : ℕ) → NoneBefore l n (length l) → dirty_of l n ≡ None
dirty_of_absent [] n none = refl
dirty_of_absent (x ∷ l) n none = grind (arith, nat_tests, none 0 (omega arith), dirty_of_absent l n (none_before_tail x l n _ none))

dirty_of_present : (l : List Dirty) (n i : ℕ) → IsAt l n i → NoneBefore l n i → dirty_of l n ≡ Some (get_or l i no_dirty)
dirty_of_present [] n i at none = absurd (omega (arith, at.in_range))
dirty_of_present (x ∷ l) n zero at none = grind (arith, nat_tests, at.has_page)
dirty_of_present (x ∷ l) n (suc i) at none = grind (arith, nat_tests, none 0 (omega arith), dirty_of_present l n i (is_at_tail x l n i at) (none_before_tail x l n i none))

-- one equation for every page says what an edit at a place does
abbrev pub FindsAfter : List Dirty → List Dirty → ℕ → Option Dirty → Type 0
FindsAfter old new n found = (q : ℕ) → dirty_of new q ≡ (if eqb n q then found else dirty_of old q)

dirty_of_set : (l : List Dirty) (n i : ℕ) (d : Dirty) → d.page ≡ n → IsAt l n i → NoneBefore l n i → FindsAfter l (set l i d) n (Some d)
dirty_of_set [] n i d e at none q = absurd (omega (arith, at.in_range))
dirty_of_set (x ∷ l) n zero d e at none q = grind (arith, nat_tests, at.has_page, e)
dirty_of_set (x ∷ l) n (suc i) d e at none q = grind (arith, nat_tests, none 0 (omega arith), dirty_of_set l n i d e (is_at_tail x l n i at) (none_before_tail x l n i none) q)

dirty_of_insert : (l : List Dirty) (i : ℕ) (d : Dirty) → NoneBefore l d.page i → FindsAfter l (insert l i d) d.page (Some d)
dirty_of_insert l zero d none q = refl
dirty_of_insert [] (suc i) d none q = refl
dirty_of_insert (x ∷ l) (suc i) d none q = grind (arith, nat_tests, none 0 (omega arith), dirty_of_insert l i d (none_before_tail x l d.page i none) q)

-- no page from place i on has the number
dirty_of_remove : (l : List Dirty) (n i : ℕ) → IsAt l n i → ((j : ℕ) → j < length l → j ≢ i → page_at l j ≢ n) → FindsAfter l (remove l i) n None
dirty_of_remove [] n i at apart q = absurd (omega (arith, at.in_range))
dirty_of_remove (x ∷ l) n zero at apart q = grind (arith, nat_tests, at.has_page, dirty_of_absent l n (λ j lt. apart (suc j) (omega arith) (λ e. absurd (omega (arith, e)))))
dirty_of_remove (x ∷ l) n (suc i) at apart q = grind (arith, nat_tests, apart 0 (omega arith), dirty_of_remove l n i (is_at_tail x l n i at) (λ j lt ne. apart (suc j) (omega arith) (λ e. ne (omega (arith, e)))) q)

-- ---- by a search

module _ (l : List Dirty) (rising : IsRising l) (n : ℕ) where
  comparisons_rise : IsNonDecreasingBy (λ (d : Dirty). ordering_index (nat_cmp d.page n)) l
  comparisons_rise = IsNonDecreasingBy-from_default (λ (d : Dirty). ordering_index (nat_cmp d.page n)) l no_dirty (λ i j le in_range.
      let pages_rise : page_at l i ≤ page_at l j = grind (arith, rising i j, λ (same : i ≡ j). ap (page_at l) same) in
      grind (arith, nat_tests))

  -- a binary search ends at the page, or at the gap for it
  pub searched : (r : Result ℕ ℕ) → IsSearchInRange r (length l) → IsBinarySearchResult (λ (d : Dirty). nat_cmp d.page n) l r → record { found : IfOk r (IsAt l n); absent : IfErr r (IsGapFor l n) }
  searched (Ok at) in_range equal = record { found = record { in_range = in_range; has_page = ranked _ n _ (sym (equal no_dirty)) }; absent = tt }
  searched (Err at) in_range parted = record {
    found = tt;
    absent = record {
      in_range = in_range;
      lower_before = λ j lt. ranked _ n _ (sym ((parted comparisons_rise).0 j no_dirty (omega arith) lt));
      higher_after = λ j le lt. ranked _ n _ (sym ((parted comparisons_rise).1 j no_dirty le lt));
    };
  }

module _ (l : List Dirty) (rising : IsRising l) (n at : ℕ) (is_at : IsAt l n at) where
  none_before_at : NoneBefore l n at
  none_before_at j lt same = omega (arith, rising j at lt is_at.in_range, is_at.has_page)

  pub found_at : dirty_of l n ≡ Some (get_or l at no_dirty)
  found_at = dirty_of_present l n at is_at none_before_at

  pub found_after_set : (d : Dirty) → d.page ≡ n → FindsAfter l (set l at d) n (Some d)
  found_after_set d e = dirty_of_set l n at d e is_at none_before_at

  pub rising_set : (d : Dirty) → d.page ≡ n → IsRising (set l at d)
  rising_set d e i j lt in_range = grind (arith, common_steps, e, rising i j, rising i at, rising at j, is_at.in_range, is_at.has_page)

  pub found_after_remove : FindsAfter l (remove l at) n None
  found_after_remove = dirty_of_remove l n at is_at (λ j lt ne same. grind (arith, rising j at, rising at j, is_at.in_range, is_at.has_page))

  pub rising_remove : IsRising (remove l at)
  rising_remove i j lt in_range =
      let new = remove l at in
      let page = λ (d : Dirty). d.page in
      let length_new = length-remove l at is_at.in_range in
      let below : (i : ℕ) → i < at → page_at new i ≡ page_at l i = λ i h. ap page (get_or-remove_below l at no_dirty i h is_at.in_range) in
      let above : (i : ℕ) → at ≤ i → page_at new i ≡ page_at l (i + 1) = λ i h. ap page (get_or-remove_above l at no_dirty i h is_at.in_range) in
      grind (arith, below i, above i, below j, above j, rising i j, rising i (j + 1), rising (i + 1) (j + 1))

module _ (l : List Dirty) (n at : ℕ) (gap : IsGapFor l n at) where
  pub absent_in_gap : dirty_of l n ≡ None
  absent_in_gap = dirty_of_absent l n (λ j lt same. grind (arith, gap.lower_before j, gap.higher_after j))

  pub found_after_insert : (d : Dirty) → d.page ≡ n → FindsAfter l (insert l at d) n (Some d)
  found_after_insert d e = subst (λ (p : ℕ). FindsAfter l (insert l at d) p (Some d)) e (dirty_of_insert l at d (λ j lt same. omega (arith, gap.lower_before j lt, same, e)))

  pub rising_insert : (d : Dirty) → d.page ≡ n → IsRising l → IsRising (insert l at d)
  rising_insert d e rising i j lt in_range =
      let new = insert l at d in
      let page = λ (d : Dirty). d.page in
      let length_new = length-insert l at d gap.in_range in
      let below : (i : ℕ) → i < at → page_at new i ≡ page_at l i = λ i h. ap page (get_or-insert_below l at d no_dirty i h gap.in_range) in
      let here : (i : ℕ) → i ≡ at → page_at new i ≡ n = λ i h. rw h (ap page (get_or-insert_at l at d no_dirty gap.in_range) ∙ e) in
      let above : (i : ℕ) → at < i → page_at new i ≡ page_at l (i - 1) = λ i h. subst (λ (q : ℕ). page_at new q ≡ page_at l (i - 1)) {x = i - 1 + 1} (omega arith) (ap page (get_or-insert_above l at d no_dirty (i - 1) (omega arith) gap.in_range)) in
      grind (arith, below i, here i, above i, below j, here j, above j, rising i j, rising i (j - 1), rising (i - 1) (j - 1), gap.lower_before i, gap.higher_after (j - 1))

-- what is read at a place is found by its number
pub found_among : (l : List Dirty) → IsRising l → (i : ℕ) (read : Option Dirty) → read ≡ slice_get l i → IfSome read (λ d. dirty_of l d.page ≡ Some d)
found_among l rising i None e = tt
found_among l rising i (Some d) e =
    let is = get_or_from_slice_get l i d no_dirty (sym e) in
    let at : IsAt l d.page i = record { in_range = slice_get_within l i d (sym e); has_page = ap (λ (one : Dirty). one.page) is } in
    found_at l rising d.page i at ∙ ap (λ (one : Dirty). Some one) is
