-- The steps of the pass, over plain lists.
use Rattle.std.proofs.Common.{◌≡◌, ◌≤◌, ◌<◌, refl, sym, ap, ◌∙◌, ℕ, zero, suc, ◌+◌, ◌^◌, ◌==◌, true, false, if◌then◌else◌, List, [], ◌∷◌, ◌++◌, length, take, drop, get_or, append_assoc, arith, drop-cons, add-one}
use Rattle.std.proofs.lemmas.List.{take-append-drop, drop_all}
use Rattle.std.specs.List.{All, AllByRecursion as Each}
use Rattle.std.proofs.lemmas.Bool.Decides.{nat_tests}
use Rattle.std.proofs.lemmas.List.Elements.{recursion_from_All}
use Rattle.jfs_bits.specs.declared.extent.Xad.{Xad}
use Rattle.jfs_bits.specs.Extent.{FitsXad}
use Rattle.jfs_xtpage.specs.Page.{end_of, rises_from}
use Rattle.jfs_xtree.specs.Laws.{ends_after}
use Rattle.jfs_xtree.specs.Cutting.{kept_below}
use Rattle.jfs_xtree.specs.Writing.{kept_from, continues, merged, joined, AllTo, AllLong}
use Rattle.jfs_xtree.proofs.Pages.{rises_less}
use Rattle.jfs_xtree.proofs.CutRows.{kept_none, kept_append}
use Rattle.jfs_xtree.proofs.WrittenIn.{kept_all, from_append, from_none, all_from_less, from_low}
use Rattle.jfs_written.specs.Range.{with_range}
use Rattle.jfs_written.specs.Walk.{all_joined, under, walked}
use Rattle.jfs_written.proofs.Cuts.{from_gone, from_whole, from_to, from_past}
use Rattle.jfs_written.proofs.Sides.{append_nothing}
use Rattle.jfs_written.proofs.Walks.{walk_is_range}

-- behind the last one
pub joined_last : (a : List Xad) (e x : Xad) → continues e x ≡ true → joined (a ++ e ∷ []) x ≡ a ++ merged e x ∷ []
joined_last [] e x c = rw c refl
joined_last (f ∷ []) e x c = ap (λ ys. f ∷ ys) (joined_last [] e x c)
joined_last (f ∷ g ∷ a) e x c = ap (λ ys. f ∷ ys) (joined_last (g ∷ a) e x c)

pub joined_apart : (a : List Xad) (e x : Xad) → continues e x ≡ false → joined (a ++ e ∷ []) x ≡ (a ++ e ∷ []) ++ x ∷ []
joined_apart [] e x c = rw c refl
joined_apart (f ∷ []) e x c = ap (λ ys. f ∷ ys) (joined_apart [] e x c)
joined_apart (f ∷ g ∷ a) e x c = ap (λ ys. f ∷ ys) (joined_apart (g ∷ a) e x c)

pub joined_pushed : (old left new : List Xad) (e x : Xad) → old ≡ left ++ e ∷ [] → continues e x ≡ true → new ≡ left ++ merged e x ∷ [] → new ≡ joined old x
joined_pushed old left new e x was c is = is ∙ sym (ap (λ ys. joined ys x) was ∙ joined_last left e x c)

pub apart_pushed : (old left mid new : List Xad) (e x : Xad) → old ≡ left ++ e ∷ [] → continues e x ≡ false → mid ≡ left ++ e ∷ [] → new ≡ mid ++ x ∷ [] → new ≡ joined old x
apart_pushed old left mid new e x was c back is = is ∙ ap (λ ys. ys ++ x ∷ []) back ∙ sym (ap (λ ys. joined ys x) was ∙ joined_apart left e x c)

-- ---- one extent of a list

next : (i : ℕ) → i + 1 ≡ suc i
next i = omega arith

pub long_at : (xs : List Xad) (i : ℕ) (d : Xad) → AllLong xs → i < length xs → 1 ≤ (get_or xs i d).at.len
long_at [] i d h l = absurd (omega (arith, l))
long_at (x ∷ xs) zero d h l = h.0
long_at (x ∷ xs) (suc i) d h l = long_at xs i d h.1 (omega (arith, l))

-- those behind it begin at or past its end
rises_rest : (low : ℕ) (xs : List Xad) (i : ℕ) (d : Xad) → rises_from low xs ≡ true → i < length xs → rises_from (end_of (get_or xs i d)) (drop (suc i) xs) ≡ true
rises_rest low [] i d r l = absurd (omega (arith, l))
rises_rest low (x ∷ xs) zero d r l = (rises_less low x xs r).1
rises_rest low (x ∷ xs) (suc i) d r l = rises_rest (end_of x) xs i d (rises_less low x xs r).1 (omega (arith, l))

-- where it ends at or before a bound, as those before it, one more does
pub one_more : (top : ℕ) (xs : List Xad) (i : ℕ) (d : Xad) → AllTo top (take i xs) → i < length xs → end_of (get_or xs i d) ≤ top → AllTo top (take (i + 1) xs)
one_more top xs i d h l e = rw add-one (by xs i h l e)
  where
    by : (xs : List Xad) (i : ℕ) → AllTo top (take i xs) → i < length xs → end_of (get_or xs i d) ≤ top → AllTo top (take (suc i) xs)
    by [] i h l e = tt
    by (x ∷ xs) zero h l e = (e, tt)
    by (x ∷ xs) (suc i) h l e = (h.0, by xs i h.1 (omega (arith, l)) e)

-- the extents that end before a bound have nothing from it on
pub skipped : (from n : ℕ) (xs : List Xad) → AllTo from (take n xs) → kept_from from (drop n xs) ≡ kept_from from xs
skipped from n xs h = sym (ap (kept_from from) (sym (take-append-drop n xs)) ∙ from_append from (take n xs) (drop n xs) ∙ ap (λ ys. ys ++ kept_from from (drop n xs)) (from_none from (take n xs) h))

-- ---- in a hole

all_joined_append : (a p q : List Xad) → all_joined a (p ++ q) ≡ all_joined (all_joined a p) q
all_joined_append a [] q = refl
all_joined_append a (x ∷ p) q = all_joined_append (joined a x) p q

pub hole_step : (a new xs : List Xad) (i from to : ℕ) (d : Xad) → i < length xs → new ≡ all_joined a (kept_below to (kept_from from (get_or xs i d ∷ [])))
    → all_joined new (kept_below to (kept_from from (drop (i + 1) xs))) ≡ all_joined a (kept_below to (kept_from from (drop i xs)))
hole_step a new xs i from to d l is =
    ap (λ ys. all_joined ys (kept_below to (kept_from from (drop (i + 1) xs)))) is
    ∙ ap (λ n. all_joined (all_joined a (kept_below to (kept_from from (get_or xs i d ∷ [])))) (kept_below to (kept_from from (drop n xs)))) (next i)
    ∙ sym (all_joined_append a (kept_below to (kept_from from (get_or xs i d ∷ []))) (kept_below to (kept_from from (drop (suc i) xs))))
    ∙ ap (all_joined a) (sym (kept_append to (kept_from from (get_or xs i d ∷ [])) (kept_from from (drop (suc i) xs))) ∙ ap (kept_below to) (sym (from_append from (get_or xs i d ∷ []) (drop (suc i) xs))))
    ∙ ap (λ ys. all_joined a (kept_below to (kept_from from ys))) (sym (drop-cons xs i d l))

-- where the extent reaches past the hole, nothing behind it has a part in it
pub hole_end : (a new xs : List Xad) (i from to : ℕ) (d : Xad) → i < length xs → rises_from 0 xs ≡ true → to < end_of (get_or xs i d) → new ≡ all_joined a (kept_below to (kept_from from (get_or xs i d ∷ [])))
    → new ≡ all_joined a (kept_below to (kept_from from (drop i xs)))
hole_end a new xs i from to d l r past is =
    let behind = all_from_less (end_of (get_or xs i d)) to (drop (suc i) xs) (omega (arith, past)) (from_low (end_of (get_or xs i d)) (drop (suc i) xs) (rises_rest 0 xs i d r l)) in
    let none = ap (λ n. kept_below to (kept_from from (drop n xs))) (next i) ∙ kept_none to (kept_from from (drop (suc i) xs)) (from_past from to (drop (suc i) xs) behind) in
    sym (ap (all_joined new) none) ∙ hole_step a new xs i from to d l is

-- ---- in an entry

-- before the entry it doesn't matter from where on it is
under_any : (f g : ℕ) (xs : List Xad) (e : Xad) → f ≤ e.offset → g ≤ e.offset → under f xs e ≡ under g xs e
under_any f g [] e l m = from_whole f e l ∙ sym (from_whole g e m)
under_any f g (x ∷ xs) e l m = ap (λ ys. kept_below x.offset ys ++ (kept_below (end_of e) (kept_from e.offset (x ∷ [])) ++ under (end_of x) xs e)) (from_whole f e l ∙ sym (from_whole g e m))

-- extents that end before the entry have no part in it
under_skip : (from n : ℕ) (xs : List Xad) (e : Xad) → from ≤ e.offset → AllTo e.offset (take n xs) → under from (drop n xs) e ≡ under from xs e
under_skip from zero xs e l h = refl
under_skip from (suc n) [] e l h = refl
under_skip from (suc n) (x ∷ xs) e l h =
    let w = ends_after x in let m = h.0 in
    under_skip from n xs e l h.1 ∙ under_any from (end_of x) xs e l m
    ∙ sym (ap (λ ys. ys ++ (kept_below (end_of e) (kept_from e.offset (x ∷ [])) ++ under (end_of x) xs e)) (kept_none x.offset (kept_from from (e ∷ [])) (from_past from x.offset (e ∷ []) (omega (arith, m, w), tt)))
    ∙ ap (λ ys. kept_below (end_of e) ys ++ under (end_of x) xs e) (from_gone e.offset x m))

-- and behind it there is nothing
under_none : (from : ℕ) (xs : List Xad) (e : Xad) → end_of e ≤ from → rises_from from xs ≡ true → under from xs e ≡ []
under_none from [] e l r = from_gone from e l
under_none from (x ∷ xs) e l r =
    let t = rises_less from x xs r in
    let m = t.0 in let w = ends_after x in
    ap (λ ys. kept_below x.offset ys ++ (kept_below (end_of e) (kept_from e.offset (x ∷ [])) ++ under (end_of x) xs e)) (from_gone from e l)
    ∙ ap (λ ys. ys ++ under (end_of x) xs e) (kept_none (end_of e) (kept_from e.offset (x ∷ [])) (from_past e.offset (end_of e) (x ∷ []) (omega (arith, l, m), tt)))
    ∙ under_none (end_of x) xs e (omega (arith, l, m, w)) t.1

pub entry_start : (old xs : List Xad) (n : ℕ) (e : Xad) → AllTo e.offset (take n xs) → old ++ under 0 (drop n xs) e ≡ old ++ under 0 xs e
entry_start old xs n e h = ap (λ ys. old ++ ys) (under_skip 0 n xs e (omega arith) h)

-- The code's words for where the entry and the extent end are `end` and `stop`.
pub entry_step : (a mid new xs : List Xad) (i from end stop : ℕ) (d e : Xad) → i < length xs → end ≡ end_of e → stop ≡ end_of (get_or xs i d)
    → mid ≡ a ++ kept_below (get_or xs i d).offset (kept_from from (e ∷ [])) → new ≡ mid ++ kept_below end (kept_from e.offset (get_or xs i d ∷ []))
    → new ++ under stop (drop (i + 1) xs) e ≡ a ++ under from (drop i xs) e
entry_step a mid new xs i from end stop d e l ends stops first second =
    let x = get_or xs i d in
    let k = kept_below x.offset (kept_from from (e ∷ [])) in
    let p = kept_below (end_of e) (kept_from e.offset (x ∷ [])) in
    let w = under (end_of x) (drop (suc i) xs) e in
    ap (λ n. new ++ under n (drop (i + 1) xs) e) stops ∙ ap (λ n. new ++ under (end_of x) (drop n xs) e) (next i)
    ∙ ap (λ ys. ys ++ w) (second ∙ ap (λ n. mid ++ kept_below n (kept_from e.offset (x ∷ []))) ends ∙ ap (λ ys. ys ++ p) first ∙ append_assoc a k p) ∙ append_assoc a (k ++ p) w ∙ ap (λ ys. a ++ ys) (append_assoc k p w)
    ∙ ap (λ ys. a ++ under from ys e) (sym (drop-cons xs i d l))

-- where the extent reaches past the entry, nothing behind it has a part in it
pub entry_end : (a mid new xs : List Xad) (i from end stop : ℕ) (d e : Xad) → i < length xs → rises_from 0 xs ≡ true → end ≡ end_of e → stop ≡ end_of (get_or xs i d) → end < stop
    → mid ≡ a ++ kept_below (get_or xs i d).offset (kept_from from (e ∷ [])) → new ≡ mid ++ kept_below end (kept_from e.offset (get_or xs i d ∷ []))
    → new ≡ a ++ under from (drop i xs) e
entry_end a mid new xs i from end stop d e l r ends stops past first second =
    let none = ap (λ n. under stop (drop n xs) e) (next i) ∙ under_none stop (drop (suc i) xs) e (omega (arith, past, ends)) (ap (λ n. rises_from n (drop (suc i) xs)) stops ∙ rises_rest 0 xs i d r l) in
    sym (ap (λ ys. new ++ ys) none ∙ append_nothing new) ∙ entry_step a mid new xs i from end stop d e l ends stops first second

pub entry_rest : (a new xs : List Xad) (i from end : ℕ) (e : Xad) → length xs ≤ i → end ≡ end_of e → new ≡ a ++ kept_below end (kept_from from (e ∷ [])) → new ≡ a ++ under from (drop i xs) e
entry_rest a new xs i from end e l ends is =
    is ∙ ap (λ n. a ++ kept_below n (kept_from from (e ∷ []))) ends
    ∙ ap (λ ys. a ++ ys) (kept_all (end_of e) (kept_from from (e ∷ [])) (from_to from (end_of e) (e ∷ []) (omega arith, tt)))
    ∙ sym (ap (λ ys. a ++ under from ys e) (drop_all i xs l))

-- ---- the whole pass

most : (o n : ℕ) → o + (if n == 0 then 1 else n) ≤ o + n + 1
most o n = grind (arith, nat_tests)

fits_to : (top : ℕ) (xs : List Xad) → 2 ^ 41 ≤ top → Each FitsXad xs → AllTo top xs
fits_to top [] l h = tt
fits_to top (x ∷ xs) l h = (let o = h.0.offset in let n = h.0.run.len in let m = most x.offset x.at.len in omega (arith, o, n, m, l), fits_to top xs l h.1)

pub pass_end : (a new es xs : List Xad) (i from top : ℕ) → length es ≤ i → All FitsXad xs → 2 ^ 41 ≤ top → rises_from 0 es ≡ true → rises_from 0 xs ≡ true
    → walked from a (drop i es) xs ≡ walked 0 [] es xs → new ≡ all_joined a (kept_below top (kept_from from xs)) → new ≡ with_range xs es
pass_end a new es xs i from top l fits big r s rest is =
    is ∙ ap (all_joined a) (kept_all top (kept_from from xs) (from_to from top xs (fits_to top xs big (recursion_from_All FitsXad xs fits))))
    ∙ sym (ap (λ ys. walked from a ys xs) (drop_all i es l)) ∙ rest ∙ walk_is_range es xs r s
