-- Which lines a call tells.
use Rattle.std.specs.Prelude.{◌≡◌, ◌≤◌, ℕ, true, List, [], ◌∷◌, ◌++◌}
use Rattle.jfs_bits.specs.declared.rule.PageKind.{PageKind}
use Rattle.jfs_ranges.specs.declared.edit.Edit.{Edit}
use Rattle.jfs_tree.specs.Edit.{count_in}
use Rattle.jfs_tree.specs.Form.{AllBelow}
use Rattle.jfs_tree.specs.Fresh.{LeadsTo, allocs_of}
use Rattle.jfs_tree.specs.Removes.{page_frees}
use Rattle.jfs_tree.specs.Tell.{PageEdits, is_in}

-- The edits of these pages, one page after the other: a page that was taken is told whole, of another the runs of lines that changed are told, each as long as can be.
abbrev pub PagesEdits : PageKind → List ℕ → (ℕ → List ℕ) → (ℕ → List ℕ) → List ℕ → List Edit → Type 0
PagesEdits kind taken old new [] edits = edits ≡ []
PagesEdits kind taken old new (n ∷ ns) edits = (own : List Edit) × (rest : List Edit) × (edits ≡ own ++ rest) × PageEdits (is_in n taken) n kind (old n) (new n) own × PagesEdits kind taken old new ns rest

-- What a call tells: the edits of different pages of the file system, each as it is after the call, and then these; nothing else. Each page that was taken is among them.
pub record TellsChanges (blocks : ℕ) (kind : PageKind) (taken : List ℕ) (pages : ℕ → List ℕ) (last tx later : List Edit) : Type 0 where
  pub after : ℕ → List ℕ
  pub changed : List ℕ
  pub lines : List Edit
  pub told : later ≡ tx ++ (lines ++ last)
  pub edits : PagesEdits kind taken pages after changed lines
  pub takes : (n : ℕ) → is_in n taken ≡ true → is_in n changed ≡ true
  pub once : (n : ℕ) → count_in n changed ≤ 1
  pub within : AllBelow blocks changed
  pub leads : (base : ℕ → List ℕ) → LeadsTo blocks base tx pages → LeadsTo blocks base later after

-- Blocks were taken from the front, in their order; the pages that they became are told whole, of other pages the changed lines, and then that the blocks are taken.
abbrev pub TellsTaken : ℕ → PageKind → (ℕ → List ℕ) → List ℕ → List ℕ → List Edit → List Edit → Type 0
TellsTaken blocks kind pages free left tx later = (taken : List ℕ) × (free ≡ taken ++ left) × TellsChanges blocks kind taken pages (allocs_of taken) tx later

-- Changed lines are told, and then that these pages are free.
abbrev pub TellsGone : ℕ → PageKind → (ℕ → List ℕ) → List Edit → List Edit → Type 0
TellsGone blocks kind pages tx later = (freed : List ℕ) × TellsChanges blocks kind [] pages (page_frees freed) tx later
