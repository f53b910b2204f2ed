-- Redo of entries, one after the other, is redo of all their edits in a row.
use Rattle.std.proofs.Common.{◌≡◌, ◌⊎◌, ◌||◌, ℕ, Bool, true, false, if◌then◌else◌, List, [], ◌∷◌, ◌++◌, refl, sym, ap, ◌∙◌, inl, inr}
use Rattle.std.proofs.lemmas.Bool.{cases_Bool, cond-true, cond-false}
use Rattle.jfs_ranges.specs.declared.edit.Edit.{Edit}
use Rattle.jfs_ranges.specs.Apply.{apply_edit, apply_tx}
use Rattle.jfs_records.specs.Redo.{is_noredo, closes_in, redone, all_of}
use Rattle.jfs_recovery.specs.Face.{Face, redo_page}
use Rattle.jfs_recovery.specs.Lines.{rest_of, ReadsEdits}
use Rattle.jfs_recovery.proofs.Lines.{all_rest}

-- ---- one entry

or_true : (x y : Bool) → y ≡ true → (x || y) ≡ true
or_true true y e = refl
or_true false y e = e

or_left : (x y : Bool) → x ≡ true → (x || y) ≡ true
or_left true y e = refl
or_left false y e = absurd (cc)

or_none : (x y : Bool) → x ≡ false → y ≡ false → (x || y) ≡ false
or_none true y e d = absurd (cc)
or_none false y e d = d

one_entry : (p : ℕ) (left : List ℕ) (tx : List Edit) (now : List ℕ) → apply_tx p (rest_of p tx) (if closes_in p tx then left else now) ≡ redone p left now tx
unfolding rest_of
one_entry p left [] now = refl
one_entry p left (e ∷ es) now = at (cases_Bool (closes_in p es)) (cases_Bool (is_noredo p e)) ∙ one_entry p left es (if is_noredo p e then left else apply_edit p e now)
  where
    next : List ℕ
    next = if is_noredo p e then left else apply_edit p e now

    tail : List Edit
    tail = if is_noredo p e then es else e ∷ es

    base : List ℕ
    base = if is_noredo p e || closes_in p es then left else now

    rest : List Edit
    rest = if closes_in p es then rest_of p es else tail

    at : (closes_in p es ≡ true) ⊎ (closes_in p es ≡ false) → (is_noredo p e ≡ true) ⊎ (is_noredo p e ≡ false) → apply_tx p rest base ≡ apply_tx p (rest_of p es) (if closes_in p es then left else next)
    at (inl c) x =
        ap (λ (t : List Edit). apply_tx p t base) (cond-true (closes_in p es) (rest_of p es) tail c)
        ∙ ap (λ (a : List ℕ). apply_tx p (rest_of p es) a) (cond-true (is_noredo p e || closes_in p es) left now (or_true (is_noredo p e) (closes_in p es) c) ∙ sym (cond-true (closes_in p es) left next c))
    at (inr c) (inl n) =
        ap (λ (t : List Edit). apply_tx p t base) (cond-false (closes_in p es) (rest_of p es) tail c ∙ cond-true (is_noredo p e) es (e ∷ es) n ∙ sym (all_rest p es c))
        ∙ ap (λ (a : List ℕ). apply_tx p (rest_of p es) a) (cond-true (is_noredo p e || closes_in p es) left now (or_left (is_noredo p e) (closes_in p es) n) ∙ sym (cond-false (closes_in p es) left next c ∙ cond-true (is_noredo p e) left (apply_edit p e now) n))
    at (inr c) (inr n) =
        ap (λ (t : List Edit). apply_tx p t base) (cond-false (closes_in p es) (rest_of p es) tail c ∙ cond-false (is_noredo p e) es (e ∷ es) n)
        ∙ ap (λ (a : List ℕ). apply_tx p (e ∷ es) a) (cond-false (is_noredo p e || closes_in p es) left now (or_none (is_noredo p e) (closes_in p es) n c))
        ∙ ap (λ (t : List Edit). apply_tx p t (apply_edit p e now)) (sym (all_rest p es c))
        ∙ ap (λ (a : List ℕ). apply_tx p (rest_of p es) a) (sym (cond-false (closes_in p es) left next c ∙ cond-false (is_noredo p e) left (apply_edit p e now) n))

-- ---- all of them

redone-append : (p : ℕ) (left : List ℕ) (es more : List Edit) (now : List ℕ) → redone p left now (es ++ more) ≡ redone p left (redone p left now es) more
redone-append p left [] more now = refl
redone-append p left (e ∷ es) more now = redone-append p left es more (if is_noredo p e then left else apply_edit p e now)

from_now : (f : Face) → ReadsEdits f → (p : ℕ) (left : List ℕ) (txs : List (List Edit)) (now : List ℕ) → redo_page f p left now txs ≡ redone p left now (all_of txs)
unfolding redo_page
from_now f reads p left [] now = refl
from_now f reads p left (tx ∷ txs) now =
    let next : f.redoes tx p (if f.closes tx p then left else now) ≡ redone p left now tx =
    reads.redoes tx p (if f.closes tx p then left else now) ∙ ap (λ (b : Bool). apply_tx p (rest_of p tx) (if b then left else now)) (reads.closes tx p) ∙ one_entry p left tx now in
    ap (λ (a : List ℕ). redo_page f p left a txs) next
    ∙ from_now f reads p left txs (redone p left now tx)
    ∙ sym (redone-append p left tx (all_of txs) now)

pub edit_by_edit : (f : Face) → ReadsEdits f → (p : ℕ) (left : List ℕ) (txs : List (List Edit)) → redo_page f p left left txs ≡ redone p left left (all_of txs)
edit_by_edit f reads p left txs = from_now f reads p left txs left
