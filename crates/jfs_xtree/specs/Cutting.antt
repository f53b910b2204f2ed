-- What is cut off a file's extents, and the blocks that this gives back.
use Rattle.std.specs.Prelude.{◌≡◌, ◌<◌, ◌+◌, ◌-◌, ℕ, nat_le, if◌then◌else◌, List, [], ◌∷◌, ◌++◌, length, Ok}
use Rattle.jfs_bits.specs.declared.extent.Xad.{Xad}
use Rattle.jfs_bits.specs.declared.descriptor.Pxd.{Pxd}
use Rattle.jfs_ranges.specs.declared.edit.Edit.{Edit}
use Rattle.jfs_ranges.specs.declared.edit.Edit.TheVariants.{Free}
use Rattle.jfs_tree.specs.Edit.{count_in}
use Rattle.jfs_tree.specs.Spells.{spells, footprint, with_root}
use Rattle.jfs_tree.specs.Levels.{HoldsLeast}
use Rattle.jfs_tree.specs.Fresh.{LeadsTo, after_tx}
use Rattle.jfs_tree.specs.Removes.{page_frees}
use Rattle.jfs_tree.specs.Tell.{TellsThen}
use Rattle.jfs_tree.specs.Frames.{KeepsFramesTold}
use Rattle.jfs_tree.specs.Changes.{TellsChanges}
use Rattle.jfs_bits.specs.declared.rule.PageKind.TheVariants.{Xtree}
use Rattle.jfs_xtpage.specs.Page.{end_of}
use Rattle.jfs_xtpage.specs.declared.head.XtForm.TheVariants.{Full}
use Rattle.jfs_xtree.specs.Node.{xt_scale, xt_node, frame_of}
use Rattle.jfs_xtree.specs.Spells.{page_nodes, root_form, spells_extents, owned_pages}

-- an extent up to a block of the file, where it reaches past it; its flag and its first blocks stay
abbrev pub up_to : ℕ → Xad → Xad
up_to bound x = if nat_le (end_of x) bound then x else record { flag = x.flag; offset = x.offset; at = record { len = bound - x.offset; addr = x.at.addr } }

-- the extents that begin below the bound, up to it
abbrev pub kept_below : ℕ → List Xad → List Xad
kept_below bound [] = []
kept_below bound (x ∷ xs) = if nat_le bound x.offset then kept_below bound xs else up_to bound x ∷ kept_below bound xs

-- the blocks of the volume that an extent has at and past the bound
abbrev pub gone_of : ℕ → Xad → List Pxd
gone_of bound x = if nat_le bound x.offset then x.at ∷ [] else (if nat_le (end_of x) bound then [] else record { len = end_of x - bound; addr = x.at.addr + (bound - x.offset) } ∷ [])

abbrev pub gone_past : ℕ → List Xad → List Pxd
gone_past bound [] = []
gone_past bound (x ∷ xs) = gone_of bound x ++ gone_past bound xs

-- the edits that free these runs of blocks
abbrev pub run_frees : List Pxd → List Edit
run_frees [] = []
run_frees (p ∷ ps) = Free p ∷ run_frees ps

-- A root that spelled these extents spells those below the bound. The pages that it has no more are those that were freed, and each page of the file system that isn't its own keeps its bytes.
-- Where each page but the last of its level held at least some number of entries, each does.
pub record HasOnlyBelow (blocks bound : ℕ) (es : List Xad) (pages later : ℕ → List ℕ) (root after : List ℕ) (freed : List ℕ) : Type 0 where
  pub spelled : spells xt_scale (page_nodes blocks later) (xt_node (root_form (length root)) blocks after) ≡ Ok (kept_below bound es)
  pub owned : (n : ℕ) → footprint xt_scale (page_nodes blocks later) (xt_node (root_form (length root)) blocks after) n + count_in n freed ≡ owned_pages blocks pages root n
  pub keeps : (n : ℕ) → n < blocks → footprint xt_scale (page_nodes blocks later) (xt_node (root_form (length root)) blocks after) n ≡ 0 → later n ≡ pages n
  pub holds : (least : ℕ) → HoldsLeast least (with_root (xt_node (root_form (length root)) blocks root) (page_nodes blocks pages)) → HoldsLeast least (with_root (xt_node (root_form (length root)) blocks after) (page_nodes blocks later))

-- Changed lines are told, then that these pages are free, and then that these runs of blocks are.
abbrev pub TellsCut : ℕ → (ℕ → List ℕ) → List Edit → List Edit → Type 0
TellsCut blocks pages tx later = (freed : List ℕ) × (runs : List Pxd) × TellsChanges blocks Xtree [] pages (page_frees freed ++ run_frees runs) tx later

-- What each page has beside kind, count, links and entries stays: its number of slots and its own descriptor.
abbrev pub KeepsPages : ℕ → (ℕ → List ℕ) → List Edit → List Edit → Type 0
KeepsPages blocks pages tx later = KeepsFramesTold (frame_of Full) blocks pages tx later

-- Whatever list the root spelled: lines were appended, then what frees the tree's pages that are no more, and then what frees the blocks past the bound in the list's order;
-- nothing else. Where the edits before lead to the pages that the view shows, all edits lead to pages in which the root spells the extents below the bound.
abbrev pub CutsExtents : ℕ → (ℕ → List ℕ) → ℕ → List ℕ → List ℕ → List Edit → List Edit → Type 0
CutsExtents blocks pages bound root after tx later = (es : List Xad) → spells_extents blocks pages root ≡ Ok es
    → (freed : List ℕ) × TellsThen (page_frees freed ++ run_frees (gone_past bound es)) tx later
    × ((base : ℕ → List ℕ) → LeadsTo blocks base tx pages → HasOnlyBelow blocks bound es pages (after_tx base later) root after freed)
