-- What is wrong with names, link counts and parents.
use Rattle.std.specs.Prelude.{◌≡◌, ◌≢◌, ℕ, Bool, true, false, not, ◌&&◌, List, ◌∷◌, ◌++◌, is_some, option_map, Ok}
use Rattle.jfs_name.specs.declared.name.NameEntry.{NameEntry}
use Rattle.jfs_mount.specs.plain.specs.Tree.{Tree, root}
use Rattle.jfs_mount.specs.plain.specs.declared.node.Node.{Node}
use Rattle.jfs_mount.specs.page_tree.specs.Walk.{Marks, Row}
use Rattle.jfs_mount.specs.objects.specs.Volume.{room}
use Rattle.jfs_mount.specs.objects.specs.Objects.{Object, has_names, listed}
use Rattle.jfs_mount.specs.objects.specs.Owners.{entries}
use Rattle.jfs_mount.specs.meaning.specs.Node.{node_with, target_in}
use Rattle.jfs_mount.specs.meaning.specs.Tree.{byte_on}
use Rattle.jfs_mount.specs.meaning.specs.Consistent.{is_reserved, leading_to, names_in, names_to, links_due}
use Rattle.jfs_mount.specs.Subject.{Subject, volume, object, IsObject, page_named}

-- The file tree as far as it can be read: a directory whose tree breaks a rule has no names.
abbrev pub readable_node : Subject → Object → Node
readable_node s o = node_with o.inode (target_in s.readers s.page o) (entries (listed s.readers.names_order o.names))

abbrev pub readable : Subject → Tree
readable s = record { nodes = λ n. option_map (readable_node s) (object s n); bytes = byte_on s.readers (volume s) }

-- all inodes have lower numbers
abbrev pub most : Subject → ℕ
most s = room (volume s)

-- ---- names that lead to nothing

-- the inode is in use, and may have a name
abbrev pub leads : Subject → ℕ → Bool
leads s n = is_some (object s n) && not (is_reserved n)

-- an entry stands on this page of a walk
pub record StandsAt {P E : Type 0} (page : ℕ) (e : E) (ms : Marks P E) : Type 0 where
  pub front : Marks P E
  pub back : Marks P E
  pub at : ms ≡ front ++ Row page e ∷ back

-- A name on this page, of a directory whose tree breaks no rule, leads to an inode that isn't in use or is reserved.
pub record LeadsNowhere (s : Subject) (page n : ℕ) : Type 0 where
  pub directory : ℕ
  pub inode_page : ℕ
  pub o : Object
  pub is : IsObject s directory inode_page o
  pub names : List NameEntry
  pub sound : listed s.readers.names_order o.names ≡ Ok names
  pub e : NameEntry
  pub tree_page : ℕ
  pub stands : StandsAt tree_page e o.names
  pub on : page ≡ page_named inode_page tree_page
  pub to : n ≡ e.inode
  pub nothing : leads s n ≡ false

-- ---- link counts

-- The link count of an inode in use isn't the one that is due by the names. Reserved inodes have no name, and are passed over.
abbrev pub MiscountsLinks : Subject → ℕ → ℕ → Type 0
MiscountsLinks s page n = (o : Object) × IsObject s n page o × (is_reserved n ≡ false) × (o.inode.nlink ≢ links_due (most s) (readable s) n (readable_node s o))

-- ---- parents

-- the one name of a directory, which its parent has
pub record HasOneName (s : Subject) (n : ℕ) (node : Node) : Type 0 where
  pub one : names_to (most s) (readable s) n ≡ 1
  pub by_parent : leading_to n (names_in ((readable s).nodes node.parent)) ≡ 1

-- The root is its own parent and has no name; any other directory has one name, in its parent.
pub record IsPlaced (s : Subject) (n : ℕ) (node : Node) : Type 0 where
  pub top : n ≡ root → (node.parent ≡ root) × (names_to (most s) (readable s) root ≡ 0)
  pub below : n ≢ root → HasOneName s n node

-- A directory's names and its parent don't agree.
abbrev pub LosesParent : Subject → ℕ → ℕ → Type 0
LosesParent s page n = (o : Object) × IsObject s n page o × (has_names o.inode ≡ true) × (IsPlaced s n (readable_node s o) → ⊥)
