-- What is known of a volume's maps from its mount on, and what its pages mean at the end.
use Rattle.std.specs.Prelude.{◌≡◌, ℕ, List}
use Rattle.jfs_super.specs.Geometry.{geometry_of}
use Rattle.jfs_super.specs.Rules.{blocks_of}
use Rattle.jfs_super.specs.declared.fields.Super.{Super}
use Rattle.jfs_shown.specs.imap.specs.Inodes.{Inodes}
use Rattle.jfs_shown.specs.bmap.specs.States.{Blocks}
use Rattle.jfs_volume_calls.specs.plain.specs.Moves.{Same}
use Rattle.jfs_shown.specs.kinds.specs.Images.{HasWholeFiles}
use Rattle.jfs_shown.specs.meaning.specs.Readers.{readers}
use Rattle.jfs_shown.specs.meaning.specs.Consistent.{IsConsistent}
use Rattle.jfs_shown.specs.meaning.specs.Room.{room_on}
use Rattle.jfs_shown.specs.meaning.specs.Image.{tree_of, room_of, IsConsistentImage}
use Rattle.jfs_shown.specs.meaning.specs.Image as meaning
use Rattle.jfs_mounted.specs.mount_rules.specs.Subject.{subject_of}
use Rattle.jfs_shown.specs.way.specs.Volume.{volume_of}
use Rattle.jfs_shown.specs.way.specs.Walk.{tree_in}
use Rattle.jfs_shown.specs.Shown.{ShowsMaps}
use Rattle.jfs_shown.specs.Laws.{HasSizes, AreAreas}
use Rattle.jfs_shown.specs.Files.{KnowsFiles}
use Rattle.jfs_mounted.specs.mount_maps.specs.Maps.{AreAtRest, AreMapsOf}
use Rattle.jfs_mounted.specs.mount_maps.specs.declared.found.FoundMaps.{FoundMaps}
use Rattle.jfs_mounted.specs.Laws.{SameButSuper}

-- ---- from the mount on

-- A consistent image of which no tree of the maps' files and of the bad blocks' breaks a rule: with the maps that a mount finds, all is known of their files, whatever the superblock's page has since.
abbrev pub MountLaw : Type 0
MountLaw = (s : Super) (old new : ℕ → List ℕ) (maps : FoundMaps) → AreAtRest (geometry_of s) maps → AreMapsOf (subject_of s old) maps → IsConsistentImage s old → HasWholeFiles (readers (blocks_of s)) old
    → SameButSuper s old new → KnowsFiles s new (meaning.volume_of s old).area maps.blocks maps.inodes maps.files

-- ---- at the end

-- Pages and maps in memory are a consistent volume with the areas of the pages, which show these maps. No rule is broken by the trees of the maps' files and of the bad blocks'.
pub record IsSettled (s : Super) (page : ℕ → List ℕ) (area : ℕ → ℕ) (blocks : Blocks) (inodes : Inodes) : Type 0 where
  pub consistent : IsConsistent (readers (blocks_of s)) (volume_of page area blocks inodes)
  pub sizes : HasSizes s blocks inodes
  pub areas : AreAreas s page area
  pub files : HasWholeFiles (readers (blocks_of s)) page
  pub shows : ShowsMaps s page blocks inodes

-- The pages alone are a consistent image, with the tree that pages and maps had, and with the room that these maps have on them.
pub record KeepsTree (s : Super) (old new : ℕ → List ℕ) (area : ℕ → ℕ) (blocks : Blocks) (inodes : Inodes) : Type 0 where
  pub consistent : IsConsistentImage s new
  pub tree : Same (tree_in (blocks_of s) old area blocks inodes) (tree_of s new)
  pub room : room_on (readers (blocks_of s)) (volume_of new area blocks inodes) (blocks_of s) s.logpxd.len ≡ room_of s new

-- Whatever the superblock's page has, and whatever stands behind the file system part.
abbrev pub SettledLaw : Type 0
SettledLaw = (s : Super) (old new : ℕ → List ℕ) (area : ℕ → ℕ) (blocks : Blocks) (inodes : Inodes) → IsSettled s old area blocks inodes → SameButSuper s old new → KeepsTree s old new area blocks inodes
