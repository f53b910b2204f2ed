-- The edits of a call on a page tree, page by page.
use Rattle.std.proofs.Common.{◌≡◌, ◌≢◌, ◌⊎◌, ◌<◌, ◌≤◌, ◌+◌, ◌-◌, ◌*◌, nat_lt, ◌==◌, ◌&&◌, ◌||◌, not, if◌then◌else◌, ℕ, Bool, true, false, List, [], ◌∷◌, ◌++◌, length, refl, sym, ap, ◌∙◌, subst, inl, inr, arith}
use Rattle.std.proofs.lemmas.Bool.{cases_Bool, cases_eq, eq-eqb, ne_eqb, and_parts, ltb-true}
use Rattle.std.proofs.lemmas.List.{append-nil}
use Rattle.jfs_bits.specs.Line.{line_size}
use Rattle.jfs_bits.specs.declared.rule.PageKind.{PageKind}
use Rattle.jfs_ranges.specs.declared.edit.Edit.{Edit}
use Rattle.jfs_ranges.specs.declared.edit.Edit.TheVariants.{Lines, NoRedo, Alloc, Free}
use Rattle.jfs_ranges.specs.Apply.{apply_tx, overlaid, place_of_line, touches_tx}
use Rattle.jfs_ranges.proofs.OnTop.{applied_onto}
use Rattle.jfs_tree.specs.Changes.{PagesEdits}
use Rattle.jfs_tree.specs.Edit.{count_in}
use Rattle.jfs_tree.specs.Fresh.{allocs_of}
use Rattle.jfs_tree.specs.Removes.{page_no_redos, page_marks, page_frees}
use Rattle.jfs_tree.specs.Tell.{IsRuns, PageEdits, is_in}
use Rattle.jfs_tree.proofs.Telling.{overlaid_run}
use Rattle.jfs_recovery.specs.crash_core.proofs.Bytes.{apply_tx-untouched}
use Rattle.jfs_recovery.specs.records.specs.Redo.{closes_in, is_noredo}
use Rattle.jfs_halves.specs.Marks.{frees_page}
use Rattle.jfs_logged.specs.Logged.{LeavesPage}
use Rattle.jfs_logged.specs.Trees.{PagesLaw}
use Rattle.jfs_logged.proofs.Staged.{runs_law}

-- ---- one page

-- a page that is told whole, whatever it held
whole_line : (n : ℕ) (kind : PageKind) (new a : List ℕ) → length new ≡ 4096 → length a ≡ 4096 → apply_tx n (Lines n kind 0 new ∷ []) a ≡ new
unfolding place_of_line
whole_line n kind new a s t =
    let start : 4096 * n + line_size kind * 0 ≡ 4096 * n + 0 = omega arith in
    ap (λ (at : ℕ). overlaid at new (4096 * n) a) start ∙ ap (λ (x : List ℕ). overlaid (4096 * n + 0) new (4096 * n) x) (sym (append-nil a))
    ∙ overlaid_run (4096 * n) new [] a [] (t ∙ sym s) ∙ append-nil new

whole_apart : (p n : ℕ) (kind : PageKind) (new : List ℕ) → p ≢ n → length new ≡ 4096 → touches_tx p (Lines n kind 0 new ∷ []) ≡ false
unfolding place_of_line
whole_apart p n kind new ne s = false_or (nat_lt place (4096 * p + 4096) && nat_lt (4096 * p - place) (length new)) (by (cases_Bool (nat_lt place (4096 * p + 4096) && nat_lt (4096 * p - place) (length new))))
  where
    place : ℕ
    place = 4096 * n + line_size kind * 0

    false_or : (a : Bool) → a ≡ false → (a || false) ≡ false
    false_or false e = refl
    false_or true e = absurd (cc (e))

    by : ((nat_lt place (4096 * p + 4096) && nat_lt (4096 * p - place) (length new)) ≡ true) ⊎ ((nat_lt place (4096 * p + 4096) && nat_lt (4096 * p - place) (length new)) ≡ false)
        → (nat_lt place (4096 * p + 4096) && nat_lt (4096 * p - place) (length new)) ≡ false
    by (inr e) = e
    by (inl e) =
        let both = and_parts (nat_lt place (4096 * p + 4096)) (nat_lt (4096 * p - place) (length new)) e in
        let low = ltb-true place (4096 * p + 4096) both.0 in
        let high = ltb-true (4096 * p - place) (length new) both.1 in
        absurd (ne (omega (arith, low, high, s)))

-- runs of a page that has the bytes it had are none
pub no_runs : (n : ℕ) (kind : PageKind) (page : List ℕ) (first : ℕ) (tx : List Edit) → IsRuns n kind page page first tx → tx ≡ []
no_runs n kind page first [] h = refl
no_runs n kind page first (Lines m own at bytes ∷ tx) (a, b, c, d, (end, e, f, g, k, l, rest)) = absurd (k at (omega arith) e refl)
no_runs n kind page first (NoRedo m ∷ tx) h = absurd h
no_runs n kind page first (Alloc run ∷ tx) h = absurd h
no_runs n kind page first (Free run ∷ tx) h = absurd h

-- ---- edits that are one after another

pub closes_onto : (p : ℕ) (xs ys : List Edit) → closes_in p xs ≡ false → closes_in p ys ≡ false → closes_in p (xs ++ ys) ≡ false
closes_onto p [] ys a b = b
closes_onto p (x ∷ xs) ys a b = at (is_noredo p x) a (λ e. closes_onto p xs ys e b)
  where
    at : (c : Bool) → (c || closes_in p xs) ≡ false → (closes_in p xs ≡ false → closes_in p (xs ++ ys) ≡ false) → (c || closes_in p (xs ++ ys)) ≡ false
    at true e rest = absurd (cc (e))
    at false e rest = rest e

pub leaves_onto : (p : ℕ) (xs ys : List Edit) → LeavesPage p xs → LeavesPage p ys → LeavesPage p (xs ++ ys)
leaves_onto p xs ys a b page s = applied_onto p xs ys page ∙ ap (apply_tx p ys) (a page s) ∙ b page s

pub frees_onto : (p : ℕ) (xs ys : List Edit) → frees_page p ys ≡ true → frees_page p (xs ++ ys) ≡ true
frees_onto p [] ys h = h
frees_onto p (x ∷ xs) ys h = ap (λ (b : Bool). (is_noredo p x && not (touches_tx p (xs ++ ys))) || b) (frees_onto p xs ys h) ∙ or_true (is_noredo p x && not (touches_tx p (xs ++ ys)))
  where
    or_true : (b : Bool) → (b || true) ≡ true
    or_true true = refl
    or_true false = refl

-- ---- what stands behind the lines

allocs_touch : (p : ℕ) (ns : List ℕ) → touches_tx p (allocs_of ns) ≡ false
allocs_touch p [] = refl
allocs_touch p (n ∷ ns) = allocs_touch p ns

allocs_close : (p : ℕ) (ns : List ℕ) → closes_in p (allocs_of ns) ≡ false
allocs_close p [] = refl
allocs_close p (n ∷ ns) = allocs_close p ns

pub marks_touch : (p : ℕ) (ns : List ℕ) → touches_tx p (page_marks ns) ≡ false
marks_touch p [] = refl
marks_touch p (n ∷ ns) = marks_touch p ns

pub marks_close : (p : ℕ) (ns : List ℕ) → closes_in p (page_marks ns) ≡ false
marks_close p [] = refl
marks_close p (n ∷ ns) = marks_close p ns

pub frees_touch : (p : ℕ) (ns : List ℕ) (ys : List Edit) → touches_tx p ys ≡ false → touches_tx p (page_no_redos ns ++ ys) ≡ false
frees_touch p [] ys h = h
frees_touch p (n ∷ ns) ys h = frees_touch p ns ys h

pub frees_close : (p : ℕ) (ns : List ℕ) (ys : List Edit) → count_in p ns ≡ 0 → closes_in p ys ≡ false → closes_in p (page_no_redos ns ++ ys) ≡ false
frees_close p [] ys none h = h
frees_close p (n ∷ ns) ys none h = at (n == p) none (λ e. frees_close p ns ys e h)
  where
    at : (b : Bool) → (if b then 1 else 0) + count_in p ns ≡ 0 → (count_in p ns ≡ 0 → closes_in p (page_no_redos ns ++ ys) ≡ false) → (b || closes_in p (page_no_redos ns ++ ys)) ≡ false
    at true e rest = absurd (omega (arith, e))
    at false e rest = rest (omega (arith, e))

pub frees_them : (p : ℕ) (ns : List ℕ) (ys : List Edit) → 0 < count_in p ns → touches_tx p ys ≡ false → frees_page p (page_no_redos ns ++ ys) ≡ true
frees_them p [] ys some h = absurd (omega (arith, some))
frees_them p (n ∷ ns) ys some h = at (n == p) some (λ e. frees_them p ns ys e h)
  where
    at : (b : Bool) → 0 < (if b then 1 else 0) + count_in p ns → (0 < count_in p ns → frees_page p (page_no_redos ns ++ ys) ≡ true) → ((b && not (touches_tx p (page_no_redos ns ++ ys))) || frees_page p (page_no_redos ns ++ ys)) ≡ true
    at true e rest = rw (frees_touch p ns ys h) refl
    at false e rest = rest (omega (arith, e))

-- ---- all pages

abbrev HasSizes : List ℕ → (ℕ → List ℕ) → Type 0
HasSizes changed new = (p : ℕ) → 0 < count_in p changed → length (new p) ≡ 4096

first_size : (n : ℕ) (ns : List ℕ) (new : ℕ → List ℕ) → HasSizes (n ∷ ns) new → length (new n) ≡ 4096
first_size n ns new sizes = sizes n (let one = ap (λ (b : Bool). (if b then 1 else 0) + count_in n ns) (eq-eqb n n refl) in omega (arith, one))

rest_sizes : (n : ℕ) (ns : List ℕ) (new : ℕ → List ℕ) → HasSizes (n ∷ ns) new → HasSizes ns new
rest_sizes n ns new sizes p some = sizes p (omega (arith, some))

module _ (kind : PageKind) (taken : List ℕ) (old new : ℕ → List ℕ) where
  page_closes : (p n : ℕ) (own : List Edit) (b : Bool) → PageEdits b n kind (old n) (new n) own → closes_in p own ≡ false
  page_closes p n own true e = ap (closes_in p) e
  page_closes p n own false h = (runs_law n kind (old n) (new n) 0 own h).closes_none p

  page_leaves : (p n : ℕ) → length (new n) ≡ 4096 → (own : List Edit) (b : Bool) → p ≢ n → PageEdits b n kind (old n) (new n) own → LeavesPage p own
  page_leaves p n size own true ne e a s = ap (λ (x : List Edit). apply_tx p x a) e ∙ apply_tx-untouched p (Lines n kind 0 (new n) ∷ []) a s (whole_apart p n kind (new n) ne size)
  page_leaves p n size own false ne h a s = (runs_law n kind (old n) (new n) 0 own h).others p ne a s

  page_stays : (n : ℕ) (own : List Edit) (b : Bool) → b ≡ false → new n ≡ old n → PageEdits b n kind (old n) (new n) own → LeavesPage n own
  page_stays n own true f e h a s = absurd (cc (f))
  page_stays n own false f e h a s = ap (λ (x : List Edit). apply_tx n x a) (no_runs n kind (old n) 0 own (subst (λ (x : List ℕ). IsRuns n kind (old n) x 0 own) e h))

  page_whole : (n : ℕ) → length (new n) ≡ 4096 → (own : List Edit) (b : Bool) → b ≡ true → PageEdits b n kind (old n) (new n) own → (a : List ℕ) → length a ≡ 4096 → apply_tx n own a ≡ new n
  page_whole n size own true t e a s = ap (λ (x : List Edit). apply_tx n x a) e ∙ whole_line n kind (new n) a size s
  page_whole n size own false t h a s = absurd (cc (t))

  none_close : (p : ℕ) (changed : List ℕ) (lines : List Edit) → PagesEdits kind taken old new changed lines → closes_in p lines ≡ false
  none_close p [] lines e = ap (closes_in p) e
  none_close p (n ∷ ns) lines (own, rest, e, here, later) = ap (closes_in p) e ∙ closes_onto p own rest (page_closes p n own (is_in n taken) here) (none_close p ns rest later)

  -- a page that isn't among those that changed
  not_among : (p : ℕ) (changed : List ℕ) → HasSizes changed new → (lines : List Edit) → PagesEdits kind taken old new changed lines → count_in p changed ≡ 0 → LeavesPage p lines
  not_among p [] sizes lines e none a s = ap (λ (x : List Edit). apply_tx p x a) e
  not_among p (n ∷ ns) sizes lines (own, rest, e, here, later) none a s =
      let parts = apart_in p n ns none in
      ap (λ (x : List Edit). apply_tx p x a) e ∙ leaves_onto p own rest (page_leaves p n (first_size n ns new sizes) own (is_in n taken) parts.0 here) (not_among p ns (rest_sizes n ns new sizes) rest later parts.1) a s
    where
      apart_in : (p n : ℕ) (ns : List ℕ) → count_in p (n ∷ ns) ≡ 0 → (p ≢ n) × (count_in p ns ≡ 0)
      apart_in p n ns none = (λ e. (let one = ap (λ (b : Bool). (if b then 1 else 0) + count_in p ns) (eq-eqb n p (sym e)) in omega (arith, none, one)), omega (arith, none))

  -- one that has the bytes it had
  same_bytes : (p : ℕ) (changed : List ℕ) → HasSizes changed new → (lines : List Edit) → PagesEdits kind taken old new changed lines → is_in p taken ≡ false → new p ≡ old p → LeavesPage p lines
  same_bytes p [] sizes lines e none same a s = ap (λ (x : List Edit). apply_tx p x a) e
  same_bytes p (n ∷ ns) sizes lines (own, rest, e, here, later) none same a s =
      ap (λ (x : List Edit). apply_tx p x a) e ∙ leaves_onto p own rest (at (cases_eq p n)) (same_bytes p ns (rest_sizes n ns new sizes) rest later none same) a s
    where
      at : (p ≡ n) ⊎ (p ≡ n → ⊥) → LeavesPage p own
      at (inl q) = subst (λ (x : ℕ). LeavesPage x own) (sym q) (page_stays n own (is_in n taken) (ap (λ (x : ℕ). is_in x taken) (sym q) ∙ none) (ap new (sym q) ∙ same ∙ ap old q) here)
      at (inr ne) = page_leaves p n (first_size n ns new sizes) own (is_in n taken) ne here

  -- one that was taken
  told_whole : (p : ℕ) (changed : List ℕ) → HasSizes changed new → (lines : List Edit) → PagesEdits kind taken old new changed lines → count_in p changed ≤ 1 → 0 < count_in p changed → is_in p taken ≡ true → (a : List ℕ) → length a ≡ 4096 → apply_tx p lines a ≡ new p
  told_whole p [] sizes lines e once some took a s = absurd (omega (arith, some))
  told_whole p (n ∷ ns) sizes lines (own, rest, e, here, later) once some took a s =
      ap (λ (x : List Edit). apply_tx p x a) e ∙ applied_onto p own rest a ∙ at (cases_eq p n) (λ b c. told_whole p ns (rest_sizes n ns new sizes) rest later b c took a s)
    where
      at : (p ≡ n) ⊎ (p ≡ n → ⊥) → (count_in p ns ≤ 1 → 0 < count_in p ns → apply_tx p rest a ≡ new p) → apply_tx p rest (apply_tx p own a) ≡ new p
      at (inl q) more =
          let one = ap (λ (b : Bool). (if b then 1 else 0) + count_in p ns) (eq-eqb n p (sym q)) in
          let whole : apply_tx p own a ≡ new p = subst (λ (x : ℕ). apply_tx x own a ≡ new x) (sym q) (page_whole n (first_size n ns new sizes) own (is_in n taken) (ap (λ (x : ℕ). is_in x taken) (sym q) ∙ took) here a s) in
          ap (apply_tx p rest) whole ∙ not_among p ns (rest_sizes n ns new sizes) rest later (omega (arith, once, one)) (new p) (sizes p some)
      at (inr ne) more =
          let none = ap (λ (b : Bool). (if b then 1 else 0) + count_in p ns) (ne_eqb n p (λ q. ne (sym q))) in
          ap (apply_tx p rest) (page_leaves p n (first_size n ns new sizes) own (is_in n taken) ne here a s) ∙ more (omega (arith, once, none)) (omega (arith, some, none))

  module _ (changed : List ℕ) (sizes : HasSizes changed new) (lines : List Edit) (told : PagesEdits kind taken old new changed lines) (once : (p : ℕ) → count_in p changed ≤ 1) (last : List Edit) (quiet : (p : ℕ) → touches_tx p last ≡ false) where
    leaves : (p : ℕ) → (count_in p changed ≡ 0) ⊎ ((is_in p taken ≡ false) × (new p ≡ old p)) → LeavesPage p (lines ++ last)
    leaves p (inl none) = leaves_onto p lines last (not_among p changed sizes lines told none) (λ a s. apply_tx-untouched p last a s (quiet p))
    leaves p (inr same) = leaves_onto p lines last (same_bytes p changed sizes lines told same.0 same.1) (λ a s. apply_tx-untouched p last a s (quiet p))

    whole : (p : ℕ) → 0 < count_in p changed → is_in p taken ≡ true → (a : List ℕ) → length a ≡ 4096 → apply_tx p (lines ++ last) a ≡ new p
    whole p some took a s = applied_onto p lines last a ∙ ap (apply_tx p last) (told_whole p changed sizes lines told (once p) some took a s) ∙ apply_tx-untouched p last (new p) (sizes p some) (quiet p)

pub pages_law : PagesLaw
pages_law = record {
  takes = λ kind taken changed blocks old new lines told once sizes. record {
    freed_are = λ p some. absurd (omega (arith, some));
    open_are = λ p none. closes_onto p lines (allocs_of blocks) (none_close kind taken old new p changed lines told) (allocs_close p blocks);
    others = leaves kind taken old new changed sizes lines told once (allocs_of blocks) (λ p. allocs_touch p blocks);
    whole = whole kind taken old new changed sizes lines told once (allocs_of blocks) (λ p. allocs_touch p blocks);
  };
  gives = λ kind taken changed freed old new lines told once sizes. record {
    freed_are = λ p some. frees_onto p lines (page_frees freed) (frees_them p freed (page_marks freed) some (marks_touch p freed));
    open_are = λ p none. closes_onto p lines (page_frees freed) (none_close kind taken old new p changed lines told) (frees_close p freed (page_marks freed) none (marks_close p freed));
    others = leaves kind taken old new changed sizes lines told once (page_frees freed) (λ p. frees_touch p freed (page_marks freed) (marks_touch p freed));
    whole = whole kind taken old new changed sizes lines told once (page_frees freed) (λ p. frees_touch p freed (page_marks freed) (marks_touch p freed));
  };
}
