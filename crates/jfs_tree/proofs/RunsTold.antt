-- The runs of lines in which a page changed, as they are told.
use Rattle.std.proofs.Common.{◌≡◌, ◌≤◌, ◌<◌, ◌⊎◌, inl, inr, refl, sym, ap, ◌∙◌, subst, ℕ, ◌+◌, ◌-◌, ◌*◌, List, [], ◌∷◌, ◌++◌, length, take, drop, Result, Ok, Err, OnOk, arith, append_assoc}
use Rattle.std.proofs.Math.Nat.{mul-le-mul_left}
use Rattle.std.proofs.lemmas.List.{append-nil, take_all}
use Rattle.jfs_bits.specs.declared.rule.PageKind.{PageKind}
use Rattle.jfs_bits.specs.Line.{line_size}
use Rattle.jfs_ranges.specs.declared.edit.Edit.{Edit}
use Rattle.jfs_ranges.specs.declared.edit.Edit.TheVariants.{Lines, NoRedo, Alloc, Free}
use Rattle.jfs_tree.specs.Tell.{IsRuns, SameLine, TellsRuns, TellsWhole, lines_from}
use Rattle.jfs_tree.proofs.Telling.{less_or}

-- what is told up to a line: with the runs from there on it is all
abbrev pub RunsSoFar : ℕ → PageKind → List ℕ → List ℕ → ℕ → List Edit → List Edit → Type 0
RunsSoFar n kind old new first tx now = (edits : List Edit) × (now ≡ tx ++ edits) × ((rest : List Edit) → IsRuns n kind old new first rest → IsRuns n kind old new 0 (edits ++ rest))

module _ (n : ℕ) (kind : PageKind) (old new : List ℕ) where
  abbrev Same : ℕ → Type 0
  Same i = SameLine (line_size kind) i old new

  -- a line that did not change is no part of a run
  skip : (e next : ℕ) (rest : List Edit) → next ≡ e + 1 → (line_size kind * e < 4096 → Same e) → IsRuns n kind old new next rest → IsRuns n kind old new e rest
  skip e next [] is same runs = λ i h within. elim (less_or e i h) [
    | inl l ↦ runs i (omega (arith, l, is)) within
    | inr at ↦ subst (λ k. line_size kind * k < 4096 → Same k) at same within
  ]
  skip e next (Lines page own at bytes ∷ edits) is same runs = (
    runs.0,
    runs.1,
    let h = runs.2 in omega (arith, h, is),
    λ i h l within. elim (less_or e i h) [
      | inl m ↦ runs.3 i (omega (arith, m, is)) l within
      | inr here ↦ subst (λ k. line_size kind * k < 4096 → Same k) here same within
    ],
    runs.4,
  )
  skip e next (NoRedo page ∷ edits) is same runs = runs
  skip e next (Alloc blocks ∷ edits) is same runs = runs
  skip e next (Free blocks ∷ edits) is same runs = runs

  -- the lines behind the last are none
  past : (lines i : ℕ) → line_size kind * lines ≡ 4096 → lines ≤ i → line_size kind * i < 4096 → ⊥
  past lines i all l within = let m = mul-le-mul_left (line_size kind) l in omega (arith, m, all, within)

  -- one run more, or none where the line did not change
  abbrev Step : ℕ → ℕ → ℕ → List Edit → List Edit → Type 0
  Step size first end now later = ((first < end) × (later ≡ now ++ Lines n kind first (lines_from size first end new) ∷ [])) ⊎ ((first ≡ end) × (later ≡ now))

  abbrev Changed : ℕ → ℕ → ℕ → Type 0
  Changed size first end = (i : ℕ) → first ≤ i → i < end → SameLine size i old new → ⊥

  one_on : (first end lines : ℕ) (tx now later : List Edit) → line_size kind * lines ≡ 4096 → end ≤ lines → (end < lines → Same end) → Changed (line_size kind) first end → Step (line_size kind) first end now later
      → RunsSoFar n kind old new first tx now → RunsSoFar n kind old new (end + 1) tx later
  one_on first end lines tx now later all within same changed step (edits, is, rest_of) =
      let stands : line_size kind * end < 4096 → Same end = λ h. elim (less_or end lines within) [ inl l ↦ same l | inr e ↦ absurd (past lines end all (omega (arith, e)) h) ] in
      let most : line_size kind * end ≤ 4096 = (let m = mul-le-mul_left (line_size kind) within in omega (arith, m, all)) in
      elim step [
        | inl (some, told) ↦ (
          edits ++ Lines n kind first (lines_from (line_size kind) first end new) ∷ [],
          told ∙ ap (λ t. t ++ Lines n kind first (lines_from (line_size kind) first end new) ∷ []) is ∙ append_assoc tx edits (Lines n kind first (lines_from (line_size kind) first end new) ∷ []),
          λ rest runs. subst (IsRuns n kind old new 0) (sym (append_assoc edits (Lines n kind first (lines_from (line_size kind) first end new) ∷ []) rest))
              (rest_of (Lines n kind first (lines_from (line_size kind) first end new) ∷ rest)
              (refl, refl, omega arith, (λ i h l. absurd (both first i h l)), (end, some, most, refl, changed, stands, skip end (end + 1) rest refl stands runs))),
        )
        | inr (none, told) ↦ (
          edits,
          told ∙ is,
          λ rest runs. rest_of rest (subst (λ k. IsRuns n kind old new k rest) (sym none) (skip end (end + 1) rest refl stands runs)),
        )
      ]
    where
      both : (a b : ℕ) → a ≤ b → b < a → ⊥
      both a b h l = omega (arith, h, l)

  pub runs_on : (size first end lines : ℕ) (tx now later : List Edit) → size ≡ line_size kind → size * lines ≡ 4096 → end ≤ lines
      → (end < lines → SameLine size end old new) → Changed size first end → Step size first end now later
      → RunsSoFar n kind old new first tx now → RunsSoFar n kind old new (end + 1) tx later
  runs_on size first end lines tx now later is =
      subst (λ k. k * lines ≡ 4096 → end ≤ lines → (end < lines → SameLine k end old new) → Changed k first end → Step k first end now later → RunsSoFar n kind old new first tx now → RunsSoFar n kind old new (end + 1) tx later)
      (sym is) (one_on first end lines tx now later)

  pub runs_done : (size first lines : ℕ) (tx now : List Edit) → size ≡ line_size kind → size * lines ≡ 4096 → lines ≤ first → RunsSoFar n kind old new first tx now → TellsRuns n kind old new tx now
  runs_done size first lines tx now is all over (edits, told, rest_of) = (
    edits,
    told,
    subst (IsRuns n kind old new 0) (append-nil edits) (rest_of [] (λ i h within. absurd (past lines i (ap (λ k. k * lines) (sym is) ∙ all) (omega (arith, over, h)) within))),
  )

pub whole_is : {F : Type 0} (n : ℕ) (kind : PageKind) (size lines : ℕ) (new : List ℕ) (tx later : List Edit) (r : Result (Unit {0}) F) → size * lines ≡ 4096 → length new ≡ 4096
    → OnOk r (later ≡ tx ++ Lines n kind 0 (lines_from size 0 lines new) ∷ []) → OnOk r (TellsWhole n kind new tx later)
whole_is n kind size lines new tx later (Ok u) all sized told =
    told ∙ ap (λ bytes. tx ++ Lines n kind 0 bytes ∷ []) (ap (λ k. take (size * lines - k) (drop k new)) (none size) ∙ take_all (size * lines - 0) new (omega (arith, all, sized)))
  where
    none : (k : ℕ) → k * 0 ≡ 0
    none k = omega arith
whole_is n kind size lines new tx later (Err f) all sized told = told
