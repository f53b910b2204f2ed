-- What a root in an inode spells: the list of its extents. (JFS Layout: an extent tree has its root in the inode, in 288 bytes; a small root has 96.)
use Rattle.std.specs.Prelude.{◌≡◌, ◌⊎◌, ◌==◌, if◌then◌else◌, ℕ, List, Option, Some, None, Result, Ok, Err, length}
use Rattle.jfs_bits.specs.declared.extent.Xad.{Xad}
use Rattle.jfs_bits.specs.declared.rule.Rule.{Rule}
use Rattle.jfs_disk.specs.declared.disk.Fault.{Fault}
use Rattle.jfs_ranges.specs.View.{CarriesCount}
use Rattle.jfs_tree.specs.Walk.{Node}
use Rattle.jfs_tree.specs.Spells.{spells, footprint}
use Rattle.jfs_tree.specs.Edit.{found_in}
use Rattle.jfs_tree.specs.Path.{broken_on_way, found_on_way}
use Rattle.jfs_tree.specs.declared.form.TreeError.{TreeError}
use Rattle.jfs_tree.specs.declared.form.TreeError.TheVariants as tree
use Rattle.jfs_xtpage.specs.declared.head.XtForm.{XtForm}
use Rattle.jfs_xtpage.specs.declared.head.XtForm.TheVariants.{Root, Full, Small}
use Rattle.jfs_xtree.specs.Node.{xt_scale, xt_node}
use Rattle.jfs_xtree.specs.declared.error.XtError.{XtError}
use Rattle.jfs_xtree.specs.declared.error.XtError.TheVariants.{View, Bad}

-- a root has one of two sizes
abbrev pub IsRootSize : ℕ → Type 0
IsRootSize size = (size ≡ 288) ⊎ (size ≡ 96)

abbrev pub root_form : ℕ → XtForm
root_form size = if size == 96 then Small else Root

-- the root, and the pages below it, on a volume whose file system part has so many blocks
abbrev pub root_node : ℕ → List ℕ → Node ℕ Xad
root_node blocks root = xt_node (root_form (length root)) blocks root

abbrev pub page_nodes : ℕ → (ℕ → List ℕ) → ℕ → Node ℕ Xad
page_nodes blocks pages n = xt_node Full blocks (pages n)

-- what a root spells in these pages: its extents, or the first broken rule and the page that breaks it
abbrev pub spells_extents : ℕ → (ℕ → List ℕ) → List ℕ → Result (List Xad) (ℕ × Rule)
spells_extents blocks pages root = spells xt_scale (page_nodes blocks pages) (root_node blocks root)

-- the pages below it, which are its own
abbrev pub owned_pages : ℕ → (ℕ → List ℕ) → List ℕ → ℕ → ℕ
owned_pages blocks pages root = footprint xt_scale (page_nodes blocks pages) (root_node blocks root)

-- the extent of a list that has a block of the file
abbrev pub point : ℕ → Xad
point offset = record { flag = 0; offset = offset; at = record { len = 1; addr = 0 } }

abbrev pub extent_at : ℕ → List Xad → Option Xad
extent_at offset es = found_in xt_scale (point offset) es

-- an error, as trees of pages name it
abbrev pub tree_error : XtError → TreeError
tree_error (View e) = tree.View e
tree_error (Bad page rule) = tree.Bad page rule

-- the count of faults rises only with a fault, which carries the part and the count that it raised
abbrev pub CarriesXt : {T : Type 0} → Fault → Fault → Result T XtError → Type 0
CarriesXt before now (Ok it) = now ≡ before
CarriesXt {T} before now (Err (View e)) = CarriesCount {T = T} before now (Err e)
CarriesXt before now (Err (Bad page rule)) = now ≡ before

-- the first broken rule on the way to a block of the file, and the page that breaks it
abbrev pub broken_for : ℕ → (ℕ → List ℕ) → List ℕ → ℕ → Option (ℕ × Rule)
broken_for blocks pages root offset = broken_on_way xt_scale (page_nodes blocks pages) offset (root_node blocks root)

-- the extent that the leaf at the end of the way to a block has there; it depends on the root and the pages of the way alone
abbrev pub found_for : ℕ → (ℕ → List ℕ) → List ℕ → ℕ → Option Xad
found_for blocks pages root offset = found_on_way xt_scale (page_nodes blocks pages) (point offset) (root_node blocks root)

-- It is the extent that has the block, wherever the root spells extents.
abbrev pub IsFoundOnWay : ℕ → (ℕ → List ℕ) → List ℕ → ℕ → Type 0
IsFoundOnWay blocks pages root offset = (es : List Xad) → spells_extents blocks pages root ≡ Ok es → found_for blocks pages root offset ≡ extent_at offset es

-- A page is named exactly where it is the first on the way that breaks a rule, and where none does, the call goes through.
abbrev pub TellsWay : {T : Type 0} → Option (ℕ × Rule) → Result T XtError → Type 0
TellsWay first (Ok it) = first ≡ None
TellsWay first (Err (View e)) = Unit {0}
TellsWay first (Err (Bad page rule)) = first ≡ Some (page, rule)

-- a page could not be read, or memory ran out
abbrev pub IsView : XtError → Type 0
IsView (View e) = Unit {0}
IsView (Bad page rule) = ⊥
