-- Events one after another, and what stands in the log of them.
use Rattle.std.proofs.Common.{◌≡◌, ◌+◌, ◌++◌, ℕ, suc, Bool, true, false, List, [], ◌∷◌, length, if◌then◌else◌, refl, sym, ap, ◌∙◌, append_assoc, arith}
use Rattle.std.specs.List.{AllByRecursion}
use Rattle.std.proofs.lemmas.List.{length-append}
use Rattle.jfs_ranges.specs.declared.edit.Edit.{Edit}
use Rattle.jfs_records.specs.Committed.{entries_of}
use Rattle.jfs_records.specs.Entries.{Item, entry, point}
use Rattle.jfs_records.specs.Laws.{IsOwn}
use Rattle.jfs_halves.specs.Entry.{Happened, edits, items_of}
use Rattle.jfs_log_window.specs.Events.{Event, Entered, Pointed, entries_in, count, points_in, points_from, items_from}
use Rattle.jfs_log_window.specs.Window.{committed_in, IsOfEntry}

pub entries-append : (xs ys : List Event) → entries_in (xs ++ ys) ≡ entries_in xs ++ entries_in ys
entries-append [] ys = refl
entries-append (Entered h ∷ xs) ys = ap (λ (l : List Happened). h ∷ l) (entries-append xs ys)
entries-append (Pointed ∷ xs) ys = entries-append xs ys

pub count-append : (xs ys : List Event) → count (xs ++ ys) ≡ count xs + count ys
count-append xs ys = ap length (entries-append xs ys) ∙ length-append (entries_in xs) (entries_in ys)

pub points_in-append : (xs ys : List Event) → points_in (xs ++ ys) ≡ points_in xs + points_in ys
points_in-append [] ys = omega arith
points_in-append (Entered h ∷ xs) ys = points_in-append xs ys
points_in-append (Pointed ∷ xs) ys = omega (arith, points_in-append xs ys)

pub points-append : (n : ℕ) (xs ys : List Event) → points_from n (xs ++ ys) ≡ points_from n xs ++ points_from (n + count xs) ys
points-append n [] ys = ap (λ (k : ℕ). points_from k ys) (omega arith)
points-append n (Entered h ∷ xs) ys =
    let place : suc n + count xs ≡ n + count (Entered h ∷ xs) = omega arith in
    points-append (suc n) xs ys ∙ ap (λ (k : ℕ). points_from (suc n) xs ++ points_from k ys) place
points-append n (Pointed ∷ xs) ys = ap (λ (l : List ℕ). n ∷ l) (points-append n xs ys)

pub length-points : (n : ℕ) (es : List Event) → length (points_from n es) ≡ points_in es
length-points n [] = refl
length-points n (Entered h ∷ es) = length-points (suc n) es
length-points n (Pointed ∷ es) = ap suc (length-points n es)

pub items-append : (n : ℕ) (xs ys : List Event) → items_from n (xs ++ ys) ≡ items_from n xs ++ items_from (n + count xs) ys
items-append n [] ys = ap (λ (k : ℕ). items_from k ys) (omega arith)
items-append n (Entered h ∷ xs) ys =
    let place : suc n + count xs ≡ n + count (Entered h ∷ xs) = omega arith in
    ap (λ (l : List Item). items_of (suc n) h ++ l) (items-append (suc n) xs ys ∙ ap (λ (k : ℕ). items_from (suc n) xs ++ items_from k ys) place)
    ∙ sym (append_assoc (items_of (suc n) h) (items_from (suc n) xs) (items_from (n + count (Entered h ∷ xs)) ys))
items-append n (Pointed ∷ xs) ys = ap (λ (l : List Item). point 0 ∷ l) (items-append n xs ys)

-- ---- transactions

pub logged-append : (xs ys : List Happened) → committed_in (xs ++ ys) ≡ committed_in xs ++ committed_in ys
logged-append [] ys = refl
logged-append (h ∷ xs) ys = by h.logs (logged-append xs ys)
  where
    by : (b : Bool) → committed_in (xs ++ ys) ≡ committed_in xs ++ committed_in ys → (if b then edits h ∷ committed_in (xs ++ ys) else committed_in (xs ++ ys)) ≡ (if b then edits h ∷ committed_in xs else committed_in xs) ++ committed_in ys
    by true e = ap (λ (l : List (List Edit)). edits h ∷ l) e
    by false e = e

-- the transactions that stand in the log are those of the entries that have a COMMIT
pub logged_are : (n : ℕ) (es : List Event) → entries_of (items_from n es) ≡ committed_in (entries_in es)
logged_are n [] = refl
logged_are n (Entered h ∷ es) = by h.logs (logged_are (suc n) es)
  where
    by : (b : Bool) → entries_of (items_from (suc n) es) ≡ committed_in (entries_in es) → entries_of ((if b then entry (suc n) h.noted ∷ [] else []) ++ items_from (suc n) es) ≡ (if b then edits h ∷ committed_in (entries_in es) else committed_in (entries_in es))
    by true e = ap (λ (l : List (List Edit)). edits h ∷ l) e
    by false e = e
logged_are n (Pointed ∷ es) = logged_are n es

pub logged_events : (xs ys : List Event) → committed_in (entries_in (xs ++ ys)) ≡ committed_in (entries_in xs) ++ committed_in (entries_in ys)
logged_events xs ys = ap committed_in (entries-append xs ys) ∙ logged-append (entries_in xs) (entries_in ys)

-- ---- SYNCPTs

-- each gives itself
pub all_own : (n : ℕ) (es : List Event) → AllByRecursion IsOwn (items_from n es)
all_own n [] = tt
all_own n (Entered h ∷ es) = by h.logs (all_own (suc n) es)
  where
    by : (b : Bool) → AllByRecursion IsOwn (items_from (suc n) es) → AllByRecursion IsOwn ((if b then entry (suc n) h.noted ∷ [] else []) ++ items_from (suc n) es)
    by true all = (tt, all)
    by false all = all
all_own n (Pointed ∷ es) = (refl, all_own n es)

-- where there is none, all that stands in the log is entries
pub all_entries : (n : ℕ) (es : List Event) → points_in es ≡ 0 → AllByRecursion IsOfEntry (items_from n es)
all_entries n [] none = tt
all_entries n (Entered h ∷ es) none = by h.logs (all_entries (suc n) es none)
  where
    by : (b : Bool) → AllByRecursion IsOfEntry (items_from (suc n) es) → AllByRecursion IsOfEntry ((if b then entry (suc n) h.noted ∷ [] else []) ++ items_from (suc n) es)
    by true all = (tt, all)
    by false all = all
all_entries n (Pointed ∷ es) none = absurd (omega (arith, none))
