-- A consistent tree, and a consistent volume. (POSIX: directory hierarchy, link count. JFS: a directory has 2 links and one more for each subdirectory.)
use Rattle.std.specs.Prelude.{◌≡◌, ◌≤◌, ◌<◌, ℕ, ◌+◌, ◌==◌, ◌||◌, Bool, true, false, if◌then◌else◌, List, [], count_by, is_some, Option, Some, None}
use Rattle.jfs_bits.specs.Broken.{first_broken}
use Rattle.jfs_inode.specs.Rules.{rows}
use Rattle.jfs_name.specs.declared.name.NameEntry.{NameEntry}
use Rattle.jfs_plain.specs.Tree.{Tree, root, is_dir}
use Rattle.jfs_plain.specs.declared.node.Node.{Node}
use Rattle.jfs_objects.specs.Readers.{Readers}
use Rattle.jfs_objects.specs.Volume.{Volume, room}
use Rattle.jfs_objects.specs.Objects.{Object, objects}
use Rattle.jfs_objects.specs.Owners.{IsSound, bit, sum_below}
use Rattle.jfs_meaning.specs.Tree.{tree_on}

-- inodes 0, 1 and 3 are kept, and have no name
abbrev pub is_reserved : ℕ → Bool
is_reserved n = n == 0 || n == 1 || n == 3

-- ---- counts

-- how many of these names lead to an inode
abbrev pub leading_to : ℕ → List NameEntry → ℕ
leading_to n es = count_by (λ e. e.inode == n) es

abbrev pub names_in : Option Node → List NameEntry
names_in None = []
names_in (Some o) = o.names

-- how many names of a directory do
abbrev pub names_for : Tree → ℕ → ℕ → ℕ
names_for t dir n = leading_to n (names_in (t.nodes dir))

-- and of all directories, where all inodes have lower numbers than `most`
abbrev pub names_to : ℕ → Tree → ℕ → ℕ
names_to most t n = sum_below most (λ dir. names_for t dir n)

abbrev pub is_directory : Option Node → Bool
is_directory None = false
is_directory (Some o) = is_dir o.kind

-- how many of these names lead to directories
abbrev pub subdirectories : Tree → List NameEntry → ℕ
subdirectories t es = count_by (λ e. is_directory (t.nodes e.inode)) es

-- the link count that an object should have
abbrev pub links_due : ℕ → Tree → ℕ → Node → ℕ
links_due most t n o = if is_dir o.kind then 2 + subdirectories t o.names else names_to most t n

-- ---- a consistent tree

-- Objects from 4 on have names; the reserved ones and the root have none.
abbrev pub MayBeNamed : Tree → ℕ → Type 0
MayBeNamed t n = (4 ≤ n) × (is_some (t.nodes n) ≡ true)

-- one name, in its parent
abbrev pub HasItsName : Tree → ℕ → Node → Type 0
HasItsName t n o = (dir : ℕ) → names_for t dir n ≡ bit (dir == o.parent)

-- the root is a directory, and its own parent
pub record IsRoot (t : Tree) (o : Node) : Type 0 where
  pub there : t.nodes root ≡ Some o
  pub directory : is_dir o.kind ≡ true
  pub parent : o.parent ≡ root

pub record IsConsistentTree (most : ℕ) (t : Tree) : Type 0 where
  pub within : (n : ℕ) → most ≤ n → t.nodes n ≡ None
  pub top : (o : Node) × IsRoot t o
  -- only directories have names, and each leads to an object that may have one
  pub files : (n : ℕ) (o : Node) → t.nodes n ≡ Some o → is_dir o.kind ≡ false → o.names ≡ []
  pub names : (dir n : ℕ) → 0 < names_for t dir n → MayBeNamed t n
  pub links : (n : ℕ) (o : Node) → t.nodes n ≡ Some o → is_reserved n ≡ false → o.links ≡ links_due most t n o
  pub parents : (n : ℕ) (o : Node) → t.nodes n ≡ Some o → is_dir o.kind ≡ true → 4 ≤ n → HasItsName t n o

-- ---- a consistent volume

-- Its maps agree and none of its trees breaks a rule, no inode in use breaks one, and its tree is consistent.
pub record IsConsistent (r : Readers) (v : Volume) : Type 0 where
  pub sound : IsSound r v
  pub inodes : (n : ℕ) (o : Object) → objects r v n ≡ Some o → first_broken (rows o.inode n) ≡ None
  pub tree : IsConsistentTree (room v) (tree_on r v)
