-- What a volume is that a check finds nothing on.
use Rattle.std.specs.Prelude.{◌≡◌, ◌<◌, ℕ, suc, true, false, List, Some, None, Ok}
use Rattle.std.specs.List.{Contains}
use Rattle.jfs_bits.specs.declared.extent.Xad.{Xad}
use Rattle.jfs_bits.specs.Broken.{first_broken}
use Rattle.jfs_mount.specs.bmap.specs.MapFile.{is_in_use}
use Rattle.jfs_inode.specs.Rules.{rows}
use Rattle.jfs_name.specs.declared.name.NameEntry.{NameEntry}
use Rattle.jfs_mount.specs.objects.specs.Objects.{Object, has_names, has_extents, listed}
use Rattle.jfs_mount.specs.objects.specs.Owners.{IsSound}
use Rattle.jfs_mount.specs.objects.specs.Image.{file_walk}
use Rattle.jfs_mount.specs.meaning.specs.Consistent.{is_reserved, links_due}
use Rattle.jfs_mount.specs.Subject.{Subject, blocks, volume, object}
use Rattle.jfs_mount.specs.Mount.{broken_mount, iags}
use Rattle.jfs_findings.specs.Inodes.{blocks_owned, is_past}
use Rattle.jfs_findings.specs.Names.{readable, readable_node, most, leads, StandsAt, IsPlaced}
use Rattle.jfs_mount.specs.page_tree.specs.Levels.{IsThinIn}
use Rattle.jfs_findings.specs.Trees.{files, extent_nodes}
use Rattle.jfs_findings.specs.Maps.{IsBlockMapPage, IsInodeMapPage}
use Rattle.jfs_findings.specs.Findings.{IsFinding}
use Rattle.jfs_findings.specs.declared.finding.Finding.{Finding}

abbrev pub HasNoFinding : Subject → Type 0
HasNoFinding s = (f : Finding) → IsFinding s f → ⊥

-- A sound volume.
pub record IsSoundVolume (s : Subject) : Type 0 where
  -- it breaks no rule of a mount
  pub mounts : broken_mount s ≡ None
  -- the maps agree with the owners of blocks and with the inodes in use, no block has two owners or lies outside, and no tree breaks a rule
  pub sound : IsSound s.readers (volume s)
  pub files : (k : ℕ) → Contains files k → (es : List Xad) × (listed s.readers.extents_order (file_walk s.readers s.page k) ≡ Ok es)
  -- no inode in use breaks a rule
  pub inodes : (n : ℕ) (o : Object) → object s n ≡ Some o → first_broken (rows o.inode n) ≡ None
  -- each name leads to an inode in use, and link counts and parents are those of the names
  pub names : (dir : ℕ) (o : Object) → object s dir ≡ Some o → (page : ℕ) (e : NameEntry) → StandsAt page e o.names → leads s e.inode ≡ true
  pub links : (n : ℕ) (o : Object) → object s n ≡ Some o → is_reserved n ≡ false → o.inode.nlink ≡ links_due (most s) (readable s) n (readable_node s o)
  pub parents : (n : ℕ) (o : Object) → object s n ≡ Some o → has_names o.inode ≡ true → IsPlaced s n (readable_node s o)
  -- the numbers of blocks and the ends of files are told rightly, and no page of an extent tree is thin
  pub nblocks : (n : ℕ) (o : Object) → object s n ≡ Some o → o.inode.nblocks ≡ blocks_owned s.readers o
  pub ends : (n : ℕ) (o : Object) → object s n ≡ Some o → is_past s.readers o ≡ false
  pub full : (n : ℕ) (o : Object) → object s n ≡ Some o → has_extents o.inode ≡ true → (page : ℕ) → IsThinIn (extent_nodes s o.inode) page → ⊥
  -- the pages of both maps are canonical in what is compared
  pub block_map : (j : ℕ) → is_in_use (blocks s) j ≡ true → IsBlockMapPage s j
  pub inode_map : (j : ℕ) → j < suc (iags s) → IsInodeMapPage s j

-- What only a check looks at: beside a consistent file tree, its maps and its owners.
pub record IsTidy (s : Subject) : Type 0 where
  pub mounts : broken_mount s ≡ None
  pub files : (k : ℕ) → Contains files k → (es : List Xad) × (listed s.readers.extents_order (file_walk s.readers s.page k) ≡ Ok es)
  -- no reserved inode is a directory
  pub reserved : (n : ℕ) (o : Object) → object s n ≡ Some o → has_names o.inode ≡ true → is_reserved n ≡ false
  pub nblocks : (n : ℕ) (o : Object) → object s n ≡ Some o → o.inode.nblocks ≡ blocks_owned s.readers o
  pub ends : (n : ℕ) (o : Object) → object s n ≡ Some o → is_past s.readers o ≡ false
  pub full : (n : ℕ) (o : Object) → object s n ≡ Some o → has_extents o.inode ≡ true → (page : ℕ) → IsThinIn (extent_nodes s o.inode) page → ⊥
  pub block_map : (j : ℕ) → is_in_use (blocks s) j ≡ true → IsBlockMapPage s j
  pub inode_map : (j : ℕ) → j < suc (iags s) → IsInodeMapPage s j
