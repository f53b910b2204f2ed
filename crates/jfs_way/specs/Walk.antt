-- What a walk gives on a consistent volume.
use Rattle.std.specs.Prelude.{◌≡◌, ◌<◌, ◌%◌, ℕ, true, is_some, List, Some, None}
use Rattle.jfs_bits.specs.Broken.{first_broken}
use Rattle.jfs_inode.specs.Inode.{FitsDinode}
use Rattle.jfs_inode.specs.Rules.{rows}
use Rattle.jfs_imap.specs.Inodes.{Inodes, home_of}
use Rattle.jfs_bmap.specs.States.{Blocks}
use Rattle.jfs_reader.specs.objects.specs.Volume.{slot_of}
use Rattle.jfs_reader.specs.meaning.specs.Readers.{readers}
use Rattle.jfs_reader.specs.meaning.specs.Tree.{tree_on}
use Rattle.jfs_reader.specs.meaning.specs.Consistent.{IsConsistent}
use Rattle.jfs_reader.specs.plain.specs.Tree.{Tree, walk, root}
use Rattle.jfs_way.specs.Volume.{volume_of, PlacesWithin}
use Rattle.jfs_way.specs.Way.{path_from, path_of}
use Rattle.jfs_way.specs.declared.object.Held.{Held}

-- the inode's place is the map's, and it breaks no rule there
pub record IsHeld (blocks : ℕ) (inodes : Inodes) (o : Held) : Type 0 where
  pub home : home_of inodes o.number ≡ Some o.page
  pub within : o.page < blocks
  pub fits : FitsDinode o.inode
  pub rules : first_broken (rows o.inode o.number) ≡ None

-- it is what stands on the page
abbrev pub IsShown : (ℕ → List ℕ) → Held → Type 0
IsShown pages o = o.inode ≡ slot_of (pages o.page) (o.number % 8)

abbrev pub tree_in : ℕ → (ℕ → List ℕ) → (ℕ → ℕ) → Blocks → Inodes → Tree
tree_in blocks pages area map inodes = tree_on (readers blocks) (volume_of pages area map inodes)

-- what is said of the tree of a consistent volume whose inode extents lie within the file system part, whatever the fixed areas and the block map are
abbrev pub IfConsistent : ℕ → (ℕ → List ℕ) → Inodes → (Tree → Type 0) → Type 0
IfConsistent blocks pages inodes fact = PlacesWithin blocks inodes → (area : ℕ → ℕ) (map : Blocks) → IsConsistent (readers blocks) (volume_of pages area map inodes) → fact (tree_in blocks pages area map inodes)

-- the number's node is there
abbrev pub IsThere : Tree → ℕ → Type 0
IsThere t n = is_some (t.nodes n) ≡ true

-- the inode of an object of the tree
abbrev pub IsOf : Tree → ℕ → Held → Type 0
IsOf t n o = (n ≡ o.number) × IsThere t n

-- ---- the loop of a walk, for the prover alone

-- so many names of the path are left, and what they lead to from here is what the path leads to
pub record HasCome (tells : Type 0) (blocks : ℕ) (pages : ℕ → List ℕ) (inodes : Inodes) (path names : List (List ℕ)) (at : Held) : Type 0 where
  pub held : IsHeld blocks inodes at
  pub shown : tells → IsShown pages at
  pub same : tells → IfConsistent blocks pages inodes (λ t. IsThere t at.number × (walk t at.number names ≡ walk t root path))
  pub met : tells → path_from blocks pages inodes at names ≡ path_of blocks pages inodes path
