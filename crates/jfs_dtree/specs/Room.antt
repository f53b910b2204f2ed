-- How much room is on a name's way down a directory's tree.
use Rattle.std.specs.Prelude.{◌≡◌, ℕ, zero, suc, Bool, true, false, ◌&&◌, ◌==◌, nat_lt, List, Option, Some, None, Result, Ok, Err}
use Rattle.std.specs.List.{list_all}
use Rattle.jfs_name.specs.declared.name.NameEntry.{NameEntry}
use Rattle.jfs_dtpage.specs.Form.{free_of}
use Rattle.jfs_dtpage.specs.declared.head.DtForm.TheVariants.{Full}
use Rattle.jfs_tree.specs.Walk.{Node, Leaf, Inner, Broken, Scale}
use Rattle.jfs_tree.specs.Spells.{no_page, with_root, levels_of}
use Rattle.jfs_tree.specs.Path.{way_of, path_of}
use Rattle.jfs_tree.specs.Adds.{read_as}
use Rattle.jfs_dtree.specs.Node.{name_scale, dt_node}
use Rattle.jfs_dtree.specs.Spells.{root_node, spells_names}
use Rattle.jfs_dtree.specs.declared.error.DtError.{DtError}
use Rattle.jfs_dtree.specs.declared.error.DtError.TheVariants.{View, Bad, Exists, Missing, TooDeep}

abbrev pub is_eight : Option ℕ → Bool
is_eight None = false
is_eight (Some levels) = levels == 8

-- a page takes a longest name where it has 18 free slots
abbrev pub is_tight : List ℕ → Bool
is_tight bytes = nat_lt (free_of bytes) 18

-- A tree of names can't take one more: it has 8 levels with its root, and each page below the root on the name's path has fewer free slots than a name may need.
abbrev pub is_deep_below : Scale (List ℕ) NameEntry → (List ℕ → Node (List ℕ) NameEntry) → (ℕ → List ℕ) → Node (List ℕ) NameEntry → List ℕ → Bool
is_deep_below order node pages root name = is_eight (levels_of (with_root root (read_as node pages)) 8 no_page) && list_all (λ n. is_tight (pages n)) (path_of order (read_as node pages) name 7 root)

-- and so can't a directory whose root has these bytes
abbrev pub is_deep : ℕ → (ℕ → List ℕ) → List ℕ → List ℕ → Bool
is_deep blocks pages root name = is_deep_below name_scale (dt_node Full blocks) pages (root_node blocks root) name

-- whatever names the root spells
abbrev pub DeepIs : ℕ → (ℕ → List ℕ) → List ℕ → List ℕ → Bool → Type 0
DeepIs blocks pages root name deep = (es : List NameEntry) → spells_names blocks pages root ≡ Ok es → is_deep blocks pages root name ≡ deep

-- A new name is refused as too deep exactly where the tree can't take it.
abbrev pub FollowsRoom : ℕ → (ℕ → List ℕ) → List ℕ → List ℕ → Result (Unit {0}) DtError → Type 0
FollowsRoom blocks pages root name (Ok it) = DeepIs blocks pages root name false
FollowsRoom blocks pages root name (Err (View e)) = Unit {0}
FollowsRoom blocks pages root name (Err (Bad page rule)) = DeepIs blocks pages root name false
FollowsRoom blocks pages root name (Err Exists) = Unit {0}
FollowsRoom blocks pages root name (Err Missing) = ⊥
FollowsRoom blocks pages root name (Err TooDeep) = DeepIs blocks pages root name true

-- ---- a walk down the way

abbrev pub child_tight : (ℕ → Bool) → Option ℕ → Bool
child_tight below None = false
child_tight below (Some page) = below page

abbrev pub node_tight : (ℕ → Bool) → ℕ → List ℕ → Node (List ℕ) NameEntry → Bool
node_tight below left name (Leaf es) = left == 0
node_tight below left name (Inner cs) = child_tight below (way_of name_scale name (Inner cs))
node_tight below left name (Broken rule) = false

-- the way from a page on has so many pages, and each is tight
unfoldable pub tight_below : ℕ → (ℕ → List ℕ) → List ℕ → ℕ → ℕ → Bool
tight_below blocks pages name zero page = false
tight_below blocks pages name (suc left) page = is_tight (pages page) && node_tight (tight_below blocks pages name left) left name (dt_node Full blocks (pages page))

-- The way of a name has 7 pages below its root, the last of them a leaf, and each is tight: so a directory is too deep for a name, told from the root and the pages of the way alone.
abbrev pub deep_on_way : ℕ → (ℕ → List ℕ) → List ℕ → List ℕ → Bool
deep_on_way blocks pages root name = child_tight (tight_below blocks pages name 7) (way_of name_scale name (root_node blocks root))

-- so has the way below a root, whatever it spells
abbrev pub TightFrom : ℕ → (ℕ → List ℕ) → List ℕ → List ℕ → Bool → Type 0
TightFrom blocks pages root name deep = (child : ℕ) → way_of name_scale name (root_node blocks root) ≡ Some child → tight_below blocks pages name 7 child ≡ deep
