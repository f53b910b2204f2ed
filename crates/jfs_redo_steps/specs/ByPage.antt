-- Edits by the pages that they change or free.
use Rattle.std.specs.Prelude.{◌≡◌, ◌≤◌, ◌<◌, ◌||◌, ◌&&◌, ◌==◌, nat_le, nat_lt, ℕ, ⊤, Bool, List, [], ◌∷◌, ◌++◌, map, filter, if◌then◌else◌}
use Rattle.jfs_ranges.specs.declared.edit.Edit.{Edit}
use Rattle.jfs_ranges.specs.Apply.{touches_edit}
use Rattle.jfs_records.specs.Redo.{is_noredo}
use Rattle.jfs_redo_steps.specs.declared.index.PageEdit.{PageEdit}

-- whether an edit puts a byte into page p, or frees it
abbrev pub concerns : ℕ → Edit → Bool
concerns p e = touches_edit p e || is_noredo p e

-- the edits of page p, in their order
abbrev pub edits_of : ℕ → List Edit → List Edit
edits_of p es = filter (concerns p) es

-- the edits that an index has, and those that it has of page p
abbrev pub edits_in : List PageEdit → List Edit
edits_in index = map (λ (x : PageEdit). x.edit.now) index

abbrev pub edits_at : ℕ → List PageEdit → List Edit
edits_at p index = edits_in (filter (λ (x : PageEdit). x.page == p) index)

-- the pages don't fall, from page p on
abbrev pub RiseFrom : ℕ → List PageEdit → Type 0
RiseFrom p [] = ⊤
RiseFrom p (x ∷ index) = (p ≤ x.page) × RiseFrom x.page index

-- The index of edits, page by page: each of the first pages has its own, in their order.
pub record IsIndex (count : ℕ) (es : List Edit) (index : List PageEdit) : Type 0 where
  pub own : (p : ℕ) → p < count → edits_at p index ≡ edits_of p es
  pub rising : RiseFrom 0 index

-- ---- for the prover alone: an index that is made

-- it holds what it did, and then these edits
abbrev pub HasMore : ℕ → List Edit → List PageEdit → List PageEdit → Type 0
HasMore count es old new = (p : ℕ) → p < count → edits_at p new ≡ edits_at p old ++ edits_of p es

-- the same of one edit, for each page from `first` on before `end`
abbrev pub HasRange : ℕ → ℕ → ℕ → Edit → List PageEdit → List PageEdit → Type 0
HasRange count first end e old new = (p : ℕ) → p < count → edits_at p new ≡ edits_at p old ++ (if nat_le first p && nat_lt p end then e ∷ [] else [])
