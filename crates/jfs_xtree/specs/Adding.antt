-- What is added to a file's extents, which pages that takes, and where it is refused.
use Rattle.std.specs.Prelude.{◌≡◌, ◌⊎◌, ◌≤◌, ℕ, List, length, Option, Some, None, Result, Ok, Err}
use Rattle.jfs_bits.specs.declared.rule.Rule.{Rule}
use Rattle.jfs_bits.specs.declared.rule.Rule.TheVariants as rules
use Rattle.jfs_bits.specs.declared.extent.Xad.{Xad}
use Rattle.jfs_ranges.specs.declared.edit.Edit.{Edit}
use Rattle.jfs_tree.specs.Adds.{on_page, AddsTold, RefusesWhereFull}
use Rattle.jfs_tree.specs.Apart.{ApartOnWay}
use Rattle.jfs_tree.specs.Filled.{AppendsTold, LeastTold}
use Rattle.jfs_tree.specs.Frames.{FramesTold}
use Rattle.jfs_tree.specs.Refusal.{ClashesOnWay, HasAllLevels}
use Rattle.jfs_tree.specs.Spells.{no_page}
use Rattle.jfs_tree.specs.Room.{FullFrom, TakesWhereFull}
use Rattle.jfs_tree.specs.declared.form.TreeError.{TreeError}
use Rattle.jfs_xtpage.specs.declared.head.XtForm.TheVariants.{Full}
use Rattle.jfs_xtree.specs.Node.{xt_scale, xt_node, frame_of, new_frame, HasNoRoom}
use Rattle.jfs_xtree.specs.Spells.{page_nodes, root_form, root_node}
use Rattle.jfs_xtree.specs.declared.error.XtError.{XtError}
use Rattle.jfs_xtree.specs.declared.error.XtError.TheVariants.{View, Bad}

-- Whatever list the root spelled, if the extent is apart from it and the free blocks aren't pages of the tree: where the edits before lead to the pages that the view shows,
-- all edits lead to pages in which the root spells one extent more. The pages that it has more are the free ones that aren't left, and no other page of the file system reads otherwise.
abbrev pub AddsExtent : ℕ → (ℕ → List ℕ) → Xad → List ℕ → List ℕ → List ℕ → List ℕ → List Edit → List Edit → Type 0
AddsExtent blocks pages x root after free left tx later = AddsTold xt_scale (xt_node Full blocks) blocks pages x (root_node blocks root) (xt_node (root_form (length root)) blocks after) free left tx later

-- And where each page but the last of its level held at least 64 entries, each does.
abbrev pub KeepsNoThin : ℕ → (ℕ → List ℕ) → Xad → List ℕ → List ℕ → List ℕ → List Edit → List Edit → Type 0
KeepsNoThin blocks pages x root after free tx later = LeastTold 64 xt_scale (xt_node Full blocks) blocks pages x (root_node blocks root) (xt_node (root_form (length root)) blocks after) free tx later

-- So of any number of entries that a page which is split in halves leaves on each part, up to 127 of its 254.
abbrev pub KeepsLeast : ℕ → (ℕ → List ℕ) → Xad → List ℕ → List ℕ → List ℕ → List Edit → List Edit → Type 0
KeepsLeast blocks pages x root after free tx later = (least : ℕ) → least ≤ 127 → LeastTold least xt_scale (xt_node Full blocks) blocks pages x (root_node blocks root) (xt_node (root_form (length root)) blocks after) free tx later

-- And appended extents leave full pages: where the extent comes past all that the root spelled, this holds of any number of entries up to the 254 that a page can have.
abbrev pub AppendsFull : ℕ → (ℕ → List ℕ) → Xad → List ℕ → List ℕ → List ℕ → List Edit → List Edit → Type 0
AppendsFull blocks pages x root after free tx later = (least : ℕ) → least ≤ 254 → AppendsTold least xt_scale (xt_node Full blocks) blocks pages x (root_node blocks root) (xt_node (root_form (length root)) blocks after) free tx later

-- What pages and root have beside kind, count, links and entries stays, and each page that was taken names itself, where the free blocks aren't pages of the tree.
abbrev pub NamesPages : ℕ → (ℕ → List ℕ) → Xad → List ℕ → List ℕ → List ℕ → List Edit → List Edit → Type 0
NamesPages blocks pages x root free left tx later = FramesTold xt_scale (xt_node Full blocks) (frame_of Full) new_frame blocks x pages (root_node blocks root) free left tx later

-- The leaf to which the extent's way leads had no extent that shares a block of the file with it, whatever stands elsewhere.
abbrev pub IsApartOnWay : ℕ → (ℕ → List ℕ) → Xad → List ℕ → Type 0
IsApartOnWay blocks pages x root = ApartOnWay xt_scale (page_nodes blocks pages) x (root_node blocks root)

-- no slot of a root is left
abbrev pub NoRoomAtRoot : List ℕ → Type 0
NoRoomAtRoot root = HasNoRoom (root_form (length root)) root

-- no slot is left in any page on the extent's way down, nor in the root
abbrev pub NoRoomOnWay : ℕ → (ℕ → List ℕ) → Xad → List ℕ → Type 0
NoRoomOnWay blocks pages x root = FullFrom xt_scale x (page_nodes blocks pages) (on_page (HasNoRoom Full) pages) (on_page (HasNoRoom Full) pages) (root_node blocks root) (NoRoomAtRoot root) (λ key. NoRoomAtRoot root)

-- The pages that are taken: one beside each page at the lower end of the way that has no room, and one for a root that moves down, where no page on the way has room.
abbrev pub TakesPages : ℕ → (ℕ → List ℕ) → Xad → List ℕ → List ℕ → List ℕ → Type 0
TakesPages blocks pages x root free left = TakesWhereFull xt_scale x (page_nodes blocks pages) (on_page (HasNoRoom Full) pages) (on_page (HasNoRoom Full) pages) (root_node blocks root) (NoRoomAtRoot root) (λ key. NoRoomAtRoot root) free left

-- a ninth level is refused only where no page on the way has room
abbrev pub RefusesFull : ℕ → (ℕ → List ℕ) → Xad → List ℕ → List ℕ → TreeError → Type 0
RefusesFull blocks pages x root free e = RefusesWhereFull xt_scale x (page_nodes blocks pages) (root_node blocks root) free (NoRoomOnWay blocks pages x root) e

-- An extent clashes at a page on its way: with an extent of a leaf; or an inner page leads it to a child, no slot is left in any page on the way from there on, and in one of them the extents, the new one among them, or the keys but
-- for the first don't stand from the child's key on up to the next child's.
abbrev pub ClashesFor : ℕ → (ℕ → List ℕ) → Xad → List ℕ → ℕ → Type 0
ClashesFor blocks pages x root = ClashesOnWay xt_scale (page_nodes blocks pages) x (on_page (HasNoRoom Full) pages) (on_page (HasNoRoom Full) pages) (root_node blocks root)

-- The extent's way has all 8 levels, with the root, and no slot is left in any page on it, nor in the root.
abbrev pub IsFullAndDeep : ℕ → (ℕ → List ℕ) → Xad → List ℕ → Type 0
IsFullAndDeep blocks pages x root = HasAllLevels xt_scale (page_nodes blocks pages) x (on_page (HasNoRoom Full) pages) (on_page (HasNoRoom Full) pages) (root_node blocks root) (λ key. NoRoomAtRoot root)

-- A page is named where it is the first on the extent's way that breaks a rule by itself, with that rule; or where none does, with rule `order` where the extent clashes at it, and the root with rule
-- `deep` where the way has all 8 levels and no room. Where the extent went in, none on its way breaks a rule.
abbrev pub AddTellsWay : Option (ℕ × Rule) → (ℕ → Type 0) → Type 0 → Result (Unit {0}) XtError → Type 0
AddTellsWay first clashes deep (Ok it) = first ≡ None
AddTellsWay first clashes deep (Err (View e)) = Unit {0}
AddTellsWay first clashes deep (Err (Bad page rule)) = (first ≡ Some (page, rule))
    ⊎ ((first ≡ None) × (((rule ≡ rules.Order) × clashes page) ⊎ ((page ≡ no_page) × (rule ≡ rules.Deep) × deep)))
