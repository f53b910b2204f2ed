-- A draft that is told page by page.
use Rattle.std.proofs.Common.{◌≡◌, ◌<◌, ◌⊎◌, inl, inr, refl, sym, ap, ◌∙◌, subst, ℕ, ◌+◌, Bool, true, false, not, ◌||◌, ◌==◌, if◌then◌else◌, List, [], ◌∷◌, ◌++◌, length, take, get_or, arith}
use Rattle.std.proofs.lemmas.Bool.{cases_eq, eq-eqb, ne_eqb, leb-true}
use Rattle.std.specs.Prelude.{nat_le}
use Rattle.std.proofs.lemmas.Grind.{take_at_read}
use Rattle.jfs_disk.specs.Image.{Image, page_of}
use Rattle.jfs_ranges.specs.declared.edit.Edit.{Edit}
use Rattle.jfs_ranges.specs.Apply.{apply_tx}
use Rattle.jfs_tree.specs.Draft.{shown}
use Rattle.jfs_tree.specs.Tell.{TellsDraft, TellsOne, is_hidden, occurs}
use Rattle.jfs_tree.specs.declared.draft.Drafted.{Drafted}

-- one more behind these
shown_last : (ds : List Drafted) (d : Drafted) (image : Image) (m : ℕ) → shown (ds ++ d ∷ []) image m ≡ (if occurs m ds then shown ds image m else (if m == d.number then d.page.0 else page_of image m))
shown_last [] d image m = refl
shown_last (e ∷ ds) d image m = elim (cases_eq m e.number) [
  | inl is ↦ rw (eq-eqb m e.number is, eq-eqb e.number m (sym is)) refl
  | inr other ↦ rw (ne_eqb m e.number other, ne_eqb e.number m (λ h. other (sym h))) (shown_last ds d image m)
]

pub shown_fresh : (ds : List Drafted) (image : Image) (m : ℕ) → occurs m ds ≡ false → shown ds image m ≡ page_of image m
shown_fresh [] image m no_one = refl
shown_fresh (e ∷ ds) image m no_one = elim (cases_eq m e.number) [
  | inl is ↦ absurd (hit (e.number == m) (occurs m ds) (eq-eqb e.number m (sym is)) no_one)
  | inr other ↦ rw (ne_eqb m e.number other) (shown_fresh ds image m (miss (e.number == m) (occurs m ds) (ne_eqb e.number m (λ h. other (sym h))) no_one))
]
  where
    hit : (a b : Bool) → a ≡ true → (if a then true else b) ≡ false → ⊥
    hit a b e f = cc

    miss : (a b : Bool) → a ≡ false → (if a then true else b) ≡ false → b ≡ false
    miss a b e f = cc

pub more : (ds : List Drafted) (i : ℕ) (d : Drafted) → i < length ds → take (i + 1) ds ≡ take i ds ++ get_or ds i d ∷ []
more ds i d h = (take_at_read ds i d h).1

pub not_true : (b r : Bool) → r ≡ not b → r ≡ true → b ≡ false
not_true true r e f = cc
not_true false r e f = refl

pub not_false : (b r : Bool) → r ≡ not b → r ≡ false → b ≡ true
not_false true r e f = refl
not_false false r e f = cc

either_true : (a b : Bool) → (a || b) ≡ true → (a ≡ true) ⊎ (b ≡ true)
either_true true b e = inl refl
either_true false b e = inr e

both_false : (a b : Bool) → (a || b) ≡ false → b ≡ false
both_false true b e = cc
both_false false b e = e

-- a page that is none of the volume's, or that a newer one hides
pub told_hidden : (blocks : ℕ) (image : Image) (ds : List Drafted) (i : ℕ) (d : Drafted) (r : Bool) (tx now : List Edit) → i < length ds → r ≡ not (is_hidden blocks (take i ds) (get_or ds i d).number) → r ≡ false → TellsDraft blocks image (take i ds) tx now → TellsDraft blocks image (take (i + 1) ds) tx now
told_hidden blocks image ds i d r tx now h is hidden told m within content size e =
    let o = not_false (is_hidden blocks (take i ds) (get_or ds i d).number) r is hidden in
    told m within content size e ∙ sym (ap (λ xs. shown xs image m) (more ds i d h) ∙ shown_last (take i ds) (get_or ds i d) image m ∙ elim (cases_eq m (get_or ds i d).number) [
      | inl at ↦ elim (either_true (nat_le blocks (get_or ds i d).number) (occurs (get_or ds i d).number (take i ds)) o) [
        | inl past ↦ absurd (let g = leb-true blocks (get_or ds i d).number past in omega (arith, g, at, within))
        | inr newer ↦ rw (ap (λ n. occurs n (take i ds)) at ∙ newer) refl
      ]
      | inr other ↦ rw (ne_eqb m (get_or ds i d).number other) (either (occurs m (take i ds)) refl)
    ])
  where
    either : (b : Bool) → occurs m (take i ds) ≡ b → (if b then shown (take i ds) image m else page_of image m) ≡ shown (take i ds) image m
    either true e = refl
    either false e = sym (shown_fresh (take i ds) image m e)

-- a page that is told
pub told_more : (blocks : ℕ) (image : Image) (ds : List Drafted) (i : ℕ) (d : Drafted) (r : Bool) (tx now later : List Edit) → i < length ds → r ≡ not (is_hidden blocks (take i ds) (get_or ds i d).number) → r ≡ true
    → TellsOne blocks image (get_or ds i d).number (get_or ds i d).page.0 now later → TellsDraft blocks image (take i ds) tx now → TellsDraft blocks image (take (i + 1) ds) tx later
told_more blocks image ds i d r tx now later h is newest one told m within content size e =
    let o = both_false (nat_le blocks (get_or ds i d).number) (occurs (get_or ds i d).number (take i ds)) (not_true (is_hidden blocks (take i ds) (get_or ds i d).number) r is newest) in
    let before = told m within content size e in
    let after = ap (λ xs. shown xs image m) (more ds i d h) ∙ shown_last (take i ds) (get_or ds i d) image m in
    elim (cases_eq m (get_or ds i d).number) [
      | inl at ↦ ap (λ k. apply_tx k later content) at
          ∙ one.0 content (subst (λ k. k < blocks) at within) size (ap (λ k. apply_tx k now content) (sym at) ∙ before ∙ shown_fresh (take i ds) image m (ap (λ k. occurs k (take i ds)) at ∙ o) ∙ ap (page_of image) at)
          ∙ sym (after ∙ rw (ap (λ k. occurs k (take i ds)) at ∙ o, eq-eqb m (get_or ds i d).number at) refl)
      | inr other ↦ one.1 m other content size ∙ before ∙ sym (after ∙ rw (ne_eqb m (get_or ds i d).number other) (either (occurs m (take i ds)) refl))
    ]
  where
    either : (b : Bool) → occurs m (take i ds) ≡ b → (if b then shown (take i ds) image m else page_of image m) ≡ shown (take i ds) image m
    either true e = refl
    either false e = sym (shown_fresh (take i ds) image m e)
