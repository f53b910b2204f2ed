-- What is added to a directory's names, and why a name is refused.
use Rattle.std.specs.Prelude.{◌≡◌, ◌⊎◌, ◌<◌, ℕ, ◌+◌, Bool, true, false, List, length, Option, Some, None, Result, Ok, Err}
use Rattle.jfs_bits.specs.declared.rule.Rule.{Rule}
use Rattle.jfs_bits.specs.declared.rule.Rule.TheVariants as rules
use Rattle.jfs_name.specs.declared.name.NameEntry.{NameEntry}
use Rattle.jfs_name.specs.Directory.{named, with_name}
use Rattle.jfs_ranges.specs.declared.edit.Edit.{Edit}
use Rattle.jfs_tree.specs.Spells.{no_page, with_root, levels_of}
use Rattle.jfs_tree.specs.Edit.{count_in}
use Rattle.jfs_tree.specs.Root.{IsSpare}
use Rattle.jfs_tree.specs.Fresh.{LeadsTo, after_tx}
use Rattle.jfs_dtpage.specs.declared.head.DtForm.TheVariants.{Root, Full}
use Rattle.jfs_tree.specs.Adds.{on_page}
use Rattle.jfs_tree.specs.Refusal.{ClashesOnWay}
use Rattle.jfs_tree.specs.Room.{FullFrom, GrowsLevel, TakesWhereFull}
use Rattle.jfs_dtree.specs.Node.{name_scale, HasNoRoom, LacksRoom}
use Rattle.jfs_dtree.specs.Room.{is_deep}
use Rattle.jfs_dtree.specs.Spells.{root_node, page_nodes, spells_names, owned_pages}
use Rattle.jfs_dtree.specs.declared.error.DtError.{DtError}
use Rattle.jfs_dtree.specs.declared.error.DtError.TheVariants.{View, Bad, Exists, Missing, TooDeep}

-- A root that spelled these names spells one more, which is new. The pages that it has more are the free ones that aren't left, and each other page of the file system that isn't its own keeps its bytes.
pub record HasOneMoreName (blocks : ℕ) (new : NameEntry) (es : List NameEntry) (pages later : ℕ → List ℕ) (root after : List ℕ) (free left : List ℕ) : Type 0 where
  pub is_new : named new.name es ≡ None
  pub spelled : spells_names blocks later after ≡ Ok (with_name new es)
  pub owned : (n : ℕ) → owned_pages blocks later after n + count_in n left ≡ owned_pages blocks pages root n + count_in n free
  pub keeps : (n : ℕ) → n < blocks → owned_pages blocks pages root n ≡ 0 → count_in n free ≡ count_in n left → later n ≡ pages n

-- Whatever names the root spelled, if the free blocks aren't pages of the tree: where the edits before lead to the pages that the view shows, all edits lead to pages in which
-- the root spells one name more.
abbrev pub AddsName : ℕ → (ℕ → List ℕ) → NameEntry → List ℕ → List ℕ → List ℕ → List ℕ → List Edit → List Edit → Type 0
AddsName blocks pages new root after free left tx later = (base : ℕ → List ℕ) → LeadsTo blocks base tx pages → (es : List NameEntry) → spells_names blocks pages root ≡ Ok es
    → IsSpare name_scale (page_nodes blocks pages) (root_node blocks root) free → HasOneMoreName blocks new es pages (after_tx base later) root after free left

-- a page of a way down that is full, and a leaf without room for the name
abbrev pub is_full_in : (ℕ → List ℕ) → ℕ → Type 0
is_full_in pages = on_page (HasNoRoom Full) pages

abbrev pub lacks_in : NameEntry → (ℕ → List ℕ) → ℕ → Type 0
lacks_in new pages = on_page (LacksRoom true (length new.name)) pages

-- the root has no room for the name, or none for one more child's key
abbrev pub NoRoomAtRoot : NameEntry → List ℕ → Type 0
NoRoomAtRoot new root = HasNoRoom Root root × LacksRoom true (length new.name) root

abbrev pub NoPlaceAtRoot : List ℕ → List ℕ → Type 0
NoPlaceAtRoot root key = HasNoRoom Root root × LacksRoom false (length key) root

-- No page on the name's way down has room, nor has the root: fewer than 18 slots are free on each, and fewer than the name takes in the leaf.
abbrev pub NoRoomOnWay : ℕ → (ℕ → List ℕ) → NameEntry → List ℕ → Type 0
NoRoomOnWay blocks pages new root = FullFrom name_scale new (page_nodes blocks pages) (is_full_in pages) (lacks_in new pages) (root_node blocks root) (NoRoomAtRoot new root) (NoPlaceAtRoot root)

-- The pages that are taken: one beside each page at the lower end of the way that has no room, and one for a root that moves down, where no page on the way has room.
abbrev pub TakesPages : ℕ → (ℕ → List ℕ) → NameEntry → List ℕ → List ℕ → List ℕ → Type 0
TakesPages blocks pages new root free left = TakesWhereFull name_scale new (page_nodes blocks pages) (is_full_in pages) (lacks_in new pages) (root_node blocks root) (NoRoomAtRoot new root) (NoPlaceAtRoot root) free left

-- Whatever names the root spelled: where the edits before lead to the pages that the view shows, all edits lead to pages in which the tree has as many levels as before, or
-- it had to get one more: a root that is a leaf has no room for the name; or no page on the name's way below the root has room, and the root moved for a child's key that it had no room for.
abbrev pub KeepsLevels : ℕ → (ℕ → List ℕ) → NameEntry → List ℕ → List ℕ → List ℕ → List Edit → List Edit → Type 0
KeepsLevels blocks pages new root after free tx later = (base : ℕ → List ℕ) → LeadsTo blocks base tx pages → (es : List NameEntry) → spells_names blocks pages root ≡ Ok es
    → IsSpare name_scale (page_nodes blocks pages) (root_node blocks root) free
    → (levels_of (with_root (root_node blocks after) (page_nodes blocks (after_tx base later))) 8 no_page ≡ levels_of (with_root (root_node blocks root) (page_nodes blocks pages)) 8 no_page)
    ⊎ GrowsLevel name_scale new (page_nodes blocks pages) (is_full_in pages) (lacks_in new pages) (root_node blocks root) (NoRoomAtRoot new root) (NoPlaceAtRoot root) (root_node blocks after) (page_nodes blocks (after_tx base later))

-- The cause of a refusal: the name is there; it isn't, and the tree is too deep for it; a page is named only where the root spells no list.
abbrev pub RefusesName : ℕ → (ℕ → List ℕ) → NameEntry → List ℕ → List ℕ → DtError → Type 0
RefusesName blocks pages new root free (View e) = Unit {0}
RefusesName blocks pages new root free (Bad page rule) = (es : List NameEntry) → spells_names blocks pages root ≡ Ok es → IsSpare name_scale (page_nodes blocks pages) (root_node blocks root) free → ⊥
RefusesName blocks pages new root free Exists = (es : List NameEntry) → spells_names blocks pages root ≡ Ok es → (inode : ℕ) × (named new.name es ≡ Some inode)
RefusesName blocks pages new root free Missing = ⊥
RefusesName blocks pages new root free TooDeep = (es : List NameEntry) → spells_names blocks pages root ≡ Ok es → (named new.name es ≡ None) × (is_deep blocks pages root new.name ≡ true)

-- A new name clashes at a page on its way: with a name of a leaf; or an inner page leads it to a child, no page on the way from there on has room, and on one of them the names, the new one among them, or the keys but
-- for the first don't stand from the child's key on up to the next child's.
abbrev pub ClashesFor : ℕ → (ℕ → List ℕ) → NameEntry → List ℕ → ℕ → Type 0
ClashesFor blocks pages new root = ClashesOnWay name_scale (page_nodes blocks pages) new (is_full_in pages) (lacks_in new pages) (root_node blocks root)

-- A page is named where it is the first on the name's way that breaks a rule by itself, with that rule, or where none does, with rule `order` where the name clashes at it. Else none on the way breaks a rule.
abbrev pub AddTellsWay : Option (ℕ × Rule) → (ℕ → Type 0) → Result (Unit {0}) DtError → Type 0
AddTellsWay first clashes (Ok it) = first ≡ None
AddTellsWay first clashes (Err (View e)) = Unit {0}
AddTellsWay first clashes (Err (Bad page rule)) = (first ≡ Some (page, rule)) ⊎ ((first ≡ None) × (rule ≡ rules.Order) × clashes page)
AddTellsWay first clashes (Err Exists) = first ≡ None
AddTellsWay first clashes (Err Missing) = ⊥
AddTellsWay first clashes (Err TooDeep) = first ≡ None

-- What the leaf at the end of the name's way has decides, whatever stands elsewhere: a name goes in only where it has none there, and there is one where it is refused as one that exists.
-- A name that is refused as too deep has none there, and its way has 7 pages below the root, none of which has slots for a longest name; where the name went in, one has, or the way is shorter.
abbrev pub AddFollowsWay : Option ℕ → Bool → Result (Unit {0}) DtError → Type 0
AddFollowsWay found deep (Ok it) = (found ≡ None) × (deep ≡ false)
AddFollowsWay found deep (Err (View e)) = Unit {0}
AddFollowsWay found deep (Err (Bad page rule)) = Unit {0}
AddFollowsWay found deep (Err Exists) = (inode : ℕ) × (found ≡ Some inode)
AddFollowsWay found deep (Err Missing) = ⊥
AddFollowsWay found deep (Err TooDeep) = (found ≡ None) × (deep ≡ true)
