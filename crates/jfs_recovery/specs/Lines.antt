-- A page's part of an entry, for redo: the lines after the last NoRedo of the page.
use Rattle.std.specs.Prelude.{◌≡◌, ◌⊎◌, ◌≤◌, ◌+◌, ◌*◌, ◌==◌, ◌||◌, ℕ, Bool, true, false, if◌then◌else◌, List, [], ◌∷◌, ◌++◌, length}
use Rattle.jfs_bits.specs.declared.rule.PageKind.{PageKind}
use Rattle.jfs_ranges.specs.declared.edit.Edit.{Edit}
use Rattle.jfs_ranges.specs.declared.edit.Edit.TheVariants.{Lines, NoRedo, Alloc, Free}
use Rattle.jfs_ranges.specs.Apply.{place_of_line, apply_tx, touches_tx}
use Rattle.jfs_records.specs.Redo.{is_noredo, closes_in}
use Rattle.jfs_recovery.specs.Face.{Face, Pages, matters}

-- what follows the last NoRedo of the page; all, where there is none
unfoldable pub rest_of : ℕ → List Edit → List Edit
rest_of p [] = []
rest_of p (e ∷ es) = if closes_in p es then rest_of p es else (if is_noredo p e then es else e ∷ es)

-- after its last NoRedo the page is logged whole
pub record LogsWhole (p : ℕ) (tx : List Edit) : Type 0 where
  pub front : List Edit
  pub back : List Edit
  pub page : ℕ
  pub kind : PageKind
  pub first : ℕ
  pub bytes : List ℕ
  pub rest : rest_of p tx ≡ front ++ Lines page kind first bytes ∷ back
  pub begins : place_of_line page kind first ≤ 4096 * p
  pub ends : 4096 * p + 4096 ≤ place_of_line page kind first + length bytes

-- ---- what an append looks at, edit by edit

-- a face whose log is edits
pub record ReadsEdits (f : Face) : Type 0 where
  pub lines : (tx : List Edit) (p : ℕ) (a : List ℕ) → f.lines tx p a ≡ apply_tx p tx a
  pub closes : (tx : List Edit) (p : ℕ) → f.closes tx p ≡ closes_in p tx
  pub redoes : (tx : List Edit) (p : ℕ) (a : List ℕ) → f.redoes tx p a ≡ apply_tx p (rest_of p tx) a

-- A page that comes to matter, or is freed and taken again, is logged whole after its last NoRedo. One that doesn't matter afterwards has no line after its
-- last NoRedo, and has one if it mattered. A fixed page has no line.
pub record LogsWell (f : Face) (s : Pages) (tx : List Edit) (t : Pages) (p : ℕ) : Type 0 where
  pub whole : matters f t p ≡ true → (closes_in p tx ≡ true) ⊎ (matters f s p ≡ false) → LogsWhole p tx
  pub shut : matters f t p ≡ false → touches_tx p (rest_of p tx) ≡ false
  pub noted : matters f t p ≡ false → matters f s p ≡ true → closes_in p tx ≡ true
  pub fixed : f.is_fixed p ≡ true → touches_tx p tx ≡ false
