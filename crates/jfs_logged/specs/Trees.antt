-- What the edits of a call on a page tree leave of each page.
use Rattle.std.specs.Prelude.{◌≡◌, ◌⊎◌, ◌<◌, ◌≤◌, ℕ, true, false, List, [], ◌++◌, length}
use Rattle.jfs_bits.specs.declared.rule.PageKind.{PageKind}
use Rattle.jfs_ranges.specs.declared.edit.Edit.{Edit}
use Rattle.jfs_ranges.specs.Apply.{apply_tx}
use Rattle.jfs_tree.specs.Changes.{PagesEdits}
use Rattle.jfs_tree.specs.Edit.{count_in}
use Rattle.jfs_tree.specs.Fresh.{allocs_of}
use Rattle.jfs_tree.specs.Removes.{page_frees}
use Rattle.jfs_tree.specs.Tell.{is_in}
use Rattle.jfs_recovery.specs.records.specs.Redo.{closes_in}
use Rattle.jfs_halves.specs.Marks.{frees_page}
use Rattle.jfs_logged.specs.Logged.{LeavesPage}

-- Of pages that changed, of which some were taken, and of others that are freed.
pub record TellsPages (taken freed changed : List ℕ) (old new : ℕ → List ℕ) (tx : List Edit) : Type 0 where
  pub freed_are : (p : ℕ) → 0 < count_in p freed → frees_page p tx ≡ true
  pub open_are : (p : ℕ) → count_in p freed ≡ 0 → closes_in p tx ≡ false
  -- a page that isn't among them, or that has the bytes it had, is left
  pub others : (p : ℕ) → (count_in p changed ≡ 0) ⊎ ((is_in p taken ≡ false) × (new p ≡ old p)) → LeavesPage p tx
  -- one that was taken is told whole
  pub whole : (p : ℕ) → 0 < count_in p changed → is_in p taken ≡ true → (a : List ℕ) → length a ≡ 4096 → apply_tx p tx a ≡ new p

-- The edits of different pages, each of the size of a page, and then those that take blocks, or that free pages.
pub record PagesLaw : Type 0 where
  pub takes : (kind : PageKind) (taken changed blocks : List ℕ) (old new : ℕ → List ℕ) (lines : List Edit) → PagesEdits kind taken old new changed lines → ((p : ℕ) → count_in p changed ≤ 1) → ((p : ℕ) → 0 < count_in p changed → length (new p) ≡ 4096)
      → TellsPages taken [] changed old new (lines ++ allocs_of blocks)
  pub gives : (kind : PageKind) (taken changed freed : List ℕ) (old new : ℕ → List ℕ) (lines : List Edit) → PagesEdits kind taken old new changed lines → ((p : ℕ) → count_in p changed ≤ 1) → ((p : ℕ) → 0 < count_in p changed → length (new p) ≡ 4096)
      → TellsPages taken freed changed old new (lines ++ page_frees freed)
