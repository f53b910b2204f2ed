-- The edits of a draft, page by page.
use Rattle.std.proofs.Common.{◌≡◌, ◌<◌, ◌≤◌, refl, sym, ap, ◌∙◌, subst, ℕ, ◌+◌, Bool, true, false, not, List, [], ◌++◌, length, take, drop, get_or, append_assoc}
use Rattle.std.proofs.lemmas.List.{append-nil, drop_all, drop_more}
use Rattle.jfs_bits.specs.declared.rule.PageKind.{PageKind}
use Rattle.jfs_disk.specs.Image.{Image}
use Rattle.jfs_ranges.specs.declared.edit.Edit.{Edit}
use Rattle.jfs_tree.specs.Tell.{DraftEdits, DraftedEdits, TellsExactly, TellsPage, is_hidden}
use Rattle.jfs_tree.specs.declared.draft.Drafted.{Drafted}
use Rattle.jfs_tree.proofs.DraftTold.{more, not_true, not_false}

-- what is told of the first so many pages: with the others' edits it is all
abbrev pub DraftSoFar : ℕ → Image → List ℕ → PageKind → List Drafted → ℕ → List Edit → List Edit → Type 0
DraftSoFar blocks image taken kind ds i tx now = (edits : List Edit) × (now ≡ tx ++ edits)
    × ((rest : List Edit) → DraftEdits blocks image taken kind (take i ds) (drop i ds) rest → DraftEdits blocks image taken kind [] ds (edits ++ rest))

module _ (blocks : ℕ) (image : Image) (taken : List ℕ) (kind : PageKind) (ds : List Drafted) where
  next_page : (i : ℕ) (d : Drafted) (own : List Edit) (tx now later : List Edit) → i < length ds → later ≡ now ++ own
      → DraftedEdits (is_hidden blocks (take i ds) (get_or ds i d).number) image taken kind (get_or ds i d).number (get_or ds i d).page.0 own
      → DraftSoFar blocks image taken kind ds i tx now → DraftSoFar blocks image taken kind ds (i + 1) tx later
  next_page i d own tx now later h told one (edits, is, rest_of) = (
    edits ++ own,
    told ∙ ap (λ t. t ++ own) is ∙ append_assoc tx edits own,
    λ rest h2. subst (DraftEdits blocks image taken kind [] ds) (sym (append_assoc edits own rest))
        (rest_of (own ++ rest) (subst (λ xs. DraftEdits blocks image taken kind (take i ds) xs (own ++ rest)) (sym (drop_more ds i d h))
        (own, rest, refl, one, subst (λ xs. DraftEdits blocks image taken kind xs (drop (i + 1) ds) rest) (more ds i d h) h2))),
  )

  pub page_told : (i : ℕ) (d : Drafted) (r : Bool) (tx now later : List Edit) → i < length ds → r ≡ not (is_hidden blocks (take i ds) (get_or ds i d).number) → r ≡ true
      → TellsPage image taken kind (get_or ds i d).number (get_or ds i d).page.0 now later
      → DraftSoFar blocks image taken kind ds i tx now → DraftSoFar blocks image taken kind ds (i + 1) tx later
  page_told i d r tx now later h is newest (own, told, edits) =
      next_page i d own tx now later h told
      (subst (λ b. DraftedEdits b image taken kind (get_or ds i d).number (get_or ds i d).page.0 own) (sym (not_true (is_hidden blocks (take i ds) (get_or ds i d).number) r is newest)) edits)

  pub page_hidden : (i : ℕ) (d : Drafted) (r : Bool) (tx now : List Edit) → i < length ds → r ≡ not (is_hidden blocks (take i ds) (get_or ds i d).number) → r ≡ false
      → DraftSoFar blocks image taken kind ds i tx now → DraftSoFar blocks image taken kind ds (i + 1) tx now
  page_hidden i d r tx now h is hidden =
      next_page i d [] tx now now h (sym (append-nil now))
      (subst (λ b. DraftedEdits b image taken kind (get_or ds i d).number (get_or ds i d).page.0 []) (sym (not_false (is_hidden blocks (take i ds) (get_or ds i d).number) r is hidden)) refl)

  pub all_told : (i : ℕ) (tx now : List Edit) → length ds ≤ i → DraftSoFar blocks image taken kind ds i tx now → TellsExactly blocks image taken kind ds tx now
  all_told i tx now h (edits, is, rest_of) = (
    edits,
    is,
    subst (DraftEdits blocks image taken kind [] ds) (append-nil edits) (rest_of [] (subst (λ xs. DraftEdits blocks image taken kind (take i ds) xs []) (sym (drop_all i ds h)) refl)),
  )
