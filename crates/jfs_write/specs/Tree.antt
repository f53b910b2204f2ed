-- A file's tree gets extents.
use Rattle.std.specs.Prelude.{◌≡◌, ◌⊎◌, ℕ, true, List, [], ◌∷◌, Err}
use Rattle.jfs_bits.specs.declared.descriptor.Pxd.{Pxd}
use Rattle.jfs_bits.specs.declared.extent.Xad.{Xad}
use Rattle.jfs_bits.specs.declared.rule.PageKind.TheVariants.{Xtree}
use Rattle.jfs_ranges.specs.declared.edit.Edit.{Edit}
use Rattle.jfs_ranges.specs.declared.edit.Edit.TheVariants.{Alloc}
use Rattle.jfs_tree.specs.Changes.{TellsTaken}
use Rattle.jfs_xtree.specs.Node.{KeepsFrame}
use Rattle.jfs_xtree.specs.Spells.{tree_error}
use Rattle.jfs_xtree.specs.declared.error.XtError.{XtError}
use Rattle.jfs_put_range.specs.Call.{WritesRange, KeepsLeast, NamesPages, RefusesOnlyDeep}
use Rattle.jfs_put_range.specs.Way.{RangeTellsWay, broken_on_range}
use Rattle.jfs_plain.specs.declared.refusal.Refusal.{Refusal}
use Rattle.jfs_read.specs.way.specs.Answer.{is_open}
use Rattle.jfs_read.specs.Read.{extents_refusal}

-- the edits that take these runs of blocks
abbrev pub run_allocs : List Pxd → List Edit
run_allocs [] = []
run_allocs (p ∷ ps) = Alloc p ∷ run_allocs ps

-- They are written into the tree as a range, by edits of its pages that take free blocks in their order; where each page but the last of its level held some number of entries, each does, and pages name themselves.
pub record WritesExtents (blocks : ℕ) (pages : ℕ → List ℕ) (xs : List Xad) (root after free left : List ℕ) (tx later : List Edit) : Type 0 where
  pub writes : WritesRange blocks pages xs root after free left tx later
  pub edits : TellsTaken blocks Xtree pages free left tx later
  pub thin : KeepsLeast blocks pages root after free tx later
  pub named : NamesPages blocks pages root free left tx later
  pub frame : KeepsFrame root after

-- where there are none, the tree stays
abbrev pub PutsExtents : ℕ → (ℕ → List ℕ) → List Xad → List ℕ → List ℕ → List ℕ → List ℕ → List Edit → List Edit → Type 0
PutsExtents blocks pages [] root after free left tx later = (after ≡ root) × (left ≡ free) × (later ≡ tx)
PutsExtents blocks pages (x ∷ xs) root after free left tx later = WritesExtents blocks pages (x ∷ xs) root after free left tx later

-- It is refused for faults and want of memory; else as the tree refuses the range: a page that is named is the first on the range's way that breaks a rule, or clashes with it, or is the root of a tree of 8 levels.
abbrev pub RefusesExtents : ℕ → (ℕ → List ℕ) → ℕ → List Xad → List ℕ → List ℕ → Refusal → Type 0
RefusesExtents blocks pages page xs root free why = (is_open why ≡ true) ⊎ ((e : XtError) × (why ≡ extents_refusal page e) × RefusesOnlyDeep blocks pages root free (tree_error e)
    × RangeTellsWay (broken_on_range blocks pages root xs) root (Err e))
