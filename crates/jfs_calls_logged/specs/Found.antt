-- What a path leads to on a consistent volume.
use Rattle.std.specs.Prelude.{◌≡◌, ◌⊎◌, ◌<◌, ◌%◌, ℕ, true, List, Some, Ok}
use Rattle.jfs_imap.specs.Inodes.{Inodes}
use Rattle.jfs_name.specs.Directory.{named}
use Rattle.jfs_name.specs.declared.name.NameEntry.{NameEntry}
use Rattle.jfs_chmod.specs.steps.specs.way.specs.dtree.specs.Spells.{spells_names}
use Rattle.jfs_chmod.specs.steps.specs.bmap.specs.States.{Blocks}
use Rattle.jfs_chmod.specs.steps.specs.objects.specs.Volume.{home, slot_of}
use Rattle.jfs_chmod.specs.steps.specs.objects.specs.Objects.{objects, spelled, has_names}
use Rattle.jfs_chmod.specs.steps.specs.meaning.specs.Readers.{readers, root_of}
use Rattle.jfs_chmod.specs.steps.specs.meaning.specs.Consistent.{IsConsistent, MayBeNamed}
use Rattle.jfs_chmod.specs.steps.specs.way.specs.plain.specs.Tree.{root}
use Rattle.jfs_chmod.specs.steps.specs.way.specs.Volume.{volume_of}
use Rattle.jfs_chmod.specs.steps.specs.way.specs.Walk.{IsThere, tree_in}
use Rattle.jfs_chmod.specs.steps.specs.way.specs.Way.{name_from, path_of}
use Rattle.jfs_chmod.specs.steps.specs.way.specs.declared.object.Held.{Held}

-- It is an object: its inode stands in its place, within the file system part, and its node is in the tree. It is the root, or may be named.
pub record IsFound (blocks : ℕ) (pages : ℕ → List ℕ) (area : ℕ → ℕ) (map : Blocks) (inodes : Inodes) (at : Held) : Type 0 where
  pub home_is : home (volume_of pages area map inodes).extents at.number ≡ Some at.page
  pub within : at.page < blocks
  pub shown : at.inode ≡ slot_of (pages at.page) (at.number % 8)
  pub there : IsThere (tree_in blocks pages area map inodes) at.number
  pub was : objects (readers blocks) (volume_of pages area map inodes) at.number ≡ Some (spelled (readers blocks) pages at.inode)
  pub reached : (at.number ≡ root) ⊎ MayBeNamed (tree_in blocks pages area map inodes) at.number

-- A name that leads somewhere stands in a directory.
pub record IsNamed (blocks : ℕ) (pages : ℕ → List ℕ) (area : ℕ → ℕ) (map : Blocks) (inodes : Inodes) (dir at : Held) (name : List ℕ) : Type 0 where
  pub is_dir : has_names dir.inode ≡ true
  pub names : List NameEntry
  pub spelled_names : spells_names blocks pages (root_of dir.inode) ≡ Ok names
  pub names_it : named name names ≡ Some at.number
  pub may : MayBeNamed (tree_in blocks pages area map inodes) at.number

pub record FoundLaw : Type 0 where
  pub paths : (blocks : ℕ) (pages : ℕ → List ℕ) (area : ℕ → ℕ) (map : Blocks) (inodes : Inodes) (path : List (List ℕ)) (at : Held) → IsConsistent (readers blocks) (volume_of pages area map inodes)
      → path_of blocks pages inodes path ≡ Ok at → IsFound blocks pages area map inodes at
  -- and a name in what a path leads to
  pub names : (blocks : ℕ) (pages : ℕ → List ℕ) (area : ℕ → ℕ) (map : Blocks) (inodes : Inodes) (dir at : Held) (name : List ℕ) → IsConsistent (readers blocks) (volume_of pages area map inodes)
      → IsFound blocks pages area map inodes dir → name_from blocks pages inodes dir name ≡ Ok at → IsNamed blocks pages area map inodes dir at name
