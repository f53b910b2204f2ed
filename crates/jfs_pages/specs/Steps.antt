-- For the prover: an entry's changes, one after another.
use Rattle.std.specs.Prelude.{ℕ, List, [], ◌∷◌, ◌==◌, Option, option_map}
use Rattle.jfs_ranges.specs.declared.edit.Edit.{Edit}
use Rattle.jfs_ranges.specs.Apply.{apply_edit, touches_edit}
use Rattle.jfs_pages.specs.declared.dirty.Dirty.{Dirty}
use Rattle.jfs_pages.specs.Dirty.{touched_by}

-- page n after edits, where it was read
abbrev pub page_after : ℕ → List Edit → Option (List ℕ) → Option (List ℕ)
page_after n [] page = page
page_after n (edit ∷ edits) page = page_after n edits (option_map (apply_edit n edit) page)

-- page n among the dirty ones after an entry's edits
abbrev pub dirty_after : ℕ → ℕ → List Edit → Option Dirty → Option Dirty
dirty_after n entry [] old = old
dirty_after n entry (edit ∷ edits) old = dirty_after n entry edits (touched_by (touches_edit n edit) n entry old)

-- page n among the dirty ones after an entry changed the sets of some pages
abbrev pub marked_after : ℕ → ℕ → List ℕ → Option Dirty → Option Dirty
marked_after n entry [] old = old
marked_after n entry (page ∷ pages) old = marked_after n entry pages (touched_by (page == n) n entry old)
