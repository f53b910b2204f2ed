-- A range of a file's blocks that is written into its tree: where it may lie, and what becomes of the tree.
use Rattle.std.specs.Prelude.{◌≡◌, ◌<◌, ◌≤◌, ◌+◌, ℕ, List, length, Some, Ok}
use Rattle.jfs_bits.specs.declared.extent.Xad.{Xad}
use Rattle.jfs_bits.specs.declared.rule.Rule.TheVariants as rules
use Rattle.jfs_ranges.specs.declared.edit.Edit.{Edit}
use Rattle.jfs_tree.specs.Walk.{Node}
use Rattle.jfs_tree.specs.Spells.{no_page, with_root, levels_of}
use Rattle.jfs_tree.specs.Levels.{HoldsLeast}
use Rattle.jfs_tree.specs.Edit.{count_in}
use Rattle.jfs_tree.specs.Fresh.{LeadsTo, after_tx}
use Rattle.jfs_tree.specs.Frames.{IsTaken}
use Rattle.jfs_tree.specs.Root.{IsSpare}
use Rattle.jfs_tree.specs.Becomes.{BecomesTold}
use Rattle.jfs_tree.specs.declared.form.TreeError.{TreeError}
use Rattle.jfs_tree.specs.declared.form.TreeError.TheVariants.{View, Bad, Memory}
use Rattle.jfs_xtpage.specs.declared.head.XtForm.TheVariants.{Full}
use Rattle.jfs_xtpage.specs.Page.{head_of}
use Rattle.jfs_xtree.specs.Node.{xt_scale, xt_node, frame_of, new_frame}
use Rattle.jfs_xtree.specs.Spells.{page_nodes, root_form, root_node, spells_extents}
use Rattle.jfs_xtree.specs.CutParts.{AllFrom}
use Rattle.jfs_xtree.specs.Writing.{AllTo}
use Rattle.jfs_written.specs.Range.{with_range}
use Rattle.jfs_written.specs.RangeLaws.{IsRange}

-- the extents lie within 17 consecutive blocks of the file, from `first` on
pub record LiesFrom (first : ℕ) (xs : List Xad) : Type 0 where
  pub from : AllFrom first xs
  pub to : AllTo (first + 17) xs

-- A range that can be written at once: one recorded extent or more, in rising order, each with a length and within the blocks of the file system part, all within 17 consecutive
-- blocks of the file. So there are at most 17 of them. Each ends below block 2^40 of the file.
pub record IsShortRange (blocks : ℕ) (xs : List Xad) : Type 0 where
  pub first : ℕ
  pub lies : LiesFrom first xs
  pub some : 0 < length xs
  pub range : IsRange blocks xs

-- Whatever list the root spelled, where the free blocks aren't pages of the tree: where the edits before lead to the pages that the view shows, all edits lead to pages in which the
-- root spells the list with the range written.
abbrev pub WritesRange : ℕ → (ℕ → List ℕ) → List Xad → List ℕ → List ℕ → List ℕ → List ℕ → List Edit → List Edit → Type 0
WritesRange blocks pages xs root after free left tx later = (es : List Xad) → spells_extents blocks pages root ≡ Ok es → IsSpare xt_scale (page_nodes blocks pages) (root_node blocks root) free
    → BecomesTold xt_scale (xt_node Full blocks) blocks (with_range xs es) pages (root_node blocks root) (xt_node (root_form (length root)) blocks after) free left tx later

-- And where each page but the last of its level held at least some number of entries, up to 127, which is half of a full page's, each does.
abbrev pub KeepsLeast : ℕ → (ℕ → List ℕ) → List ℕ → List ℕ → List ℕ → List Edit → List Edit → Type 0
KeepsLeast blocks pages root after free tx later = (es : List Xad) → spells_extents blocks pages root ≡ Ok es → IsSpare xt_scale (page_nodes blocks pages) (root_node blocks root) free → (base : ℕ → List ℕ) → LeadsTo blocks base tx pages
    → (least : ℕ) → least ≤ 127 → HoldsLeast least (with_root (root_node blocks root) (page_nodes blocks pages)) → HoldsLeast least (with_root (xt_node (root_form (length root)) blocks after) (page_nodes blocks (after_tx base later)))

-- A page that was taken names itself, its own descriptor being one block at its own number, where the root spelled a list and the free blocks aren't pages of its tree. Each page that
-- wasn't taken keeps its frame, which is what it has beside kind, count, links and entries.
pub record AreNamed (blocks : ℕ) (pages later : ℕ → List ℕ) (root free left : List ℕ) : Type 0 where
  pub taken : (es : List Xad) → spells_extents blocks pages root ≡ Ok es → IsSpare xt_scale (page_nodes blocks pages) (root_node blocks root) free → (n : ℕ) → n < blocks → IsTaken free left n → frame_of Full (later n) ≡ new_frame n
  pub others : (n : ℕ) → n < blocks → count_in n free ≡ count_in n left → frame_of Full (later n) ≡ frame_of Full (pages n)

-- so of the pages to which all edits lead, where the edits before lead to the pages that the view shows
abbrev pub NamesPages : ℕ → (ℕ → List ℕ) → List ℕ → List ℕ → List ℕ → List Edit → List Edit → Type 0
NamesPages blocks pages root free left tx later = (base : ℕ → List ℕ) → LeadsTo blocks base tx pages → AreNamed blocks pages (after_tx base later) root free left

-- fewer than two slots of the root are free
abbrev pub LacksTwo : List ℕ → Type 0
LacksTwo root = (head_of root).maxentry < (head_of root).nextindex + 2

-- A root is refused only where two more entries could ask for a ninth level: the tree has 8, and fewer than two of the root's slots are free.
abbrev pub IsNinth : (ℕ → Node ℕ Xad) → Node ℕ Xad → List ℕ → TreeError → Type 0
IsNinth pages node root (View e) = Unit {0}
IsNinth pages node root (Bad page rule) = (page ≡ no_page) × (rule ≡ rules.Deep) × (levels_of (with_root node pages) 8 no_page ≡ Some 8) × LacksTwo root
IsNinth pages node root Memory = Unit {0}

-- And where the root spells a list, no other rule is named.
abbrev pub RefusesOnlyDeep : ℕ → (ℕ → List ℕ) → List ℕ → List ℕ → TreeError → Type 0
RefusesOnlyDeep blocks pages root free e = (es : List Xad) → spells_extents blocks pages root ≡ Ok es → IsSpare xt_scale (page_nodes blocks pages) (root_node blocks root) free → IsNinth (page_nodes blocks pages) (root_node blocks root) root e
