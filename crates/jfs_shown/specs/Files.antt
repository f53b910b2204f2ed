-- A mounted volume and the files of its maps: where these lie, and what they show while a map hasn't changed.
use Rattle.std.specs.Prelude.{◌≡◌, ◌<◌, ◌+◌, ℕ, false, List, length, slice_get, Some}
use Rattle.jfs_super.specs.Rules.{blocks_of}
use Rattle.jfs_super.specs.declared.fields.Super.{Super}
use Rattle.jfs_way.specs.imap.specs.Inodes.{Inodes}
use Rattle.jfs_way.specs.bmap.specs.MapFile.{pages_of}
use Rattle.jfs_way.specs.bmap.specs.States.{Blocks}
use Rattle.jfs_map_files.specs.declared.map_file.MapFiles.{MapFiles}
use Rattle.jfs_way.specs.objects.specs.Readers.{Readers}
use Rattle.jfs_way.specs.objects.specs.Volume.{Volume}
use Rattle.jfs_way.specs.objects.specs.Owners.{Agrees}
use Rattle.jfs_way.specs.objects.specs.Contents.{block_of}
use Rattle.jfs_way.specs.objects.specs.Image.{file_extents}
use Rattle.jfs_kinds.specs.Images.{HasWholeFiles}
use Rattle.jfs_way.specs.meaning.specs.Readers.{readers}
use Rattle.jfs_way.specs.Volume.{volume_of}
use Rattle.jfs_shown.specs.Shown.{ShowsBlocks, ShowsInodes, ShowsMaps}
use Rattle.jfs_shown.specs.Laws.{HasSizes, AreAreas, KeepsPlaces, map_pages}

-- each of these blocks holds the page of its number of inode `k` of the aggregate
abbrev pub AreFilePlaces : Readers → (ℕ → List ℕ) → ℕ → List ℕ → Type 0
AreFilePlaces r page k places = (j b : ℕ) → slice_get places j ≡ Some b → block_of (file_extents r page k) j ≡ Some b

-- a map that hasn't changed since its pages were written is shown by them
abbrev pub ShowBlockMap : Super → (ℕ → List ℕ) → Blocks → MapFiles → Type 0
ShowBlockMap s page blocks files = files.blocks.stale ≡ false → (j b : ℕ) → slice_get files.blocks.places j ≡ Some b → ShowsBlocks (blocks_of s) blocks j (page b)

abbrev pub ShowInodeMap : (ℕ → List ℕ) → Inodes → MapFiles → Type 0
ShowInodeMap page inodes files = files.inodes.stale ≡ false → (j b : ℕ) → slice_get files.inodes.places j ≡ Some b → ShowsInodes inodes j (page b)

-- What holds between calls of a mounted volume's pages, its maps in memory, and their files. The trees of these files and of the bad blocks' break no rule.
pub record KnowsFiles (s : Super) (page : ℕ → List ℕ) (area : ℕ → ℕ) (blocks : Blocks) (inodes : Inodes) (files : MapFiles) : Type 0 where
  pub sizes : HasSizes s blocks inodes
  pub areas : AreAreas s page area
  pub whole : HasWholeFiles (readers (blocks_of s)) page
  pub block_pages : length files.blocks.places ≡ pages_of (blocks_of s)
  pub inode_pages : length files.inodes.places ≡ inodes.iags + 1
  pub block_places : AreFilePlaces (readers (blocks_of s)) page 2 files.blocks.places
  pub inode_places : AreFilePlaces (readers (blocks_of s)) page 16 files.inodes.places
  pub block_map : ShowBlockMap s page blocks files
  pub inode_map : ShowInodeMap page inodes files

-- ---- what follows

-- Where neither map has changed since, the pages show both.
abbrev pub WrittenLaw : Type 0
WrittenLaw = (s : Super) (page : ℕ → List ℕ) (area : ℕ → ℕ) (blocks : Blocks) (inodes : Inodes) (files : MapFiles) → KnowsFiles s page area blocks inodes files
    → files.blocks.stale ≡ false → files.inodes.stale ≡ false → ShowsMaps s page blocks inodes

-- Pages and maps change, and the files lie where they did.
pub record ChangesMaps (s : Super) (old new : ℕ → List ℕ) (after : Blocks) (inodes later : Inodes) (before files : MapFiles) : Type 0 where
  pub places : KeepsPlaces (readers (blocks_of s)) old new
  pub block_places : files.blocks.places ≡ before.blocks.places
  pub inode_places : files.inodes.places ≡ before.inodes.places
  pub sizes : HasSizes s after later
  pub groups : later.iags ≡ inodes.iags
  pub block_map : ShowBlockMap s new after files
  pub inode_map : ShowInodeMap new later files

abbrev pub ChangeLaw : Type 0
ChangeLaw = (s : Super) (old new : ℕ → List ℕ) (area : ℕ → ℕ) (blocks after : Blocks) (inodes later : Inodes) (before files : MapFiles) → KnowsFiles s old area blocks inodes before
    → ChangesMaps s old new after inodes later before files → KnowsFiles s new area after later files

-- On a volume whose maps agree the pages of both files lie on blocks of their own, which are areas.
pub record HasOwnPlaces (r : Readers) (page : ℕ → List ℕ) (area : ℕ → ℕ) (files : MapFiles) : Type 0 where
  pub blocks : (n m b : ℕ) → slice_get files.blocks.places n ≡ Some b → slice_get files.blocks.places m ≡ Some b → n ≡ m
  pub inodes : (n m b : ℕ) → slice_get files.inodes.places n ≡ Some b → slice_get files.inodes.places m ≡ Some b → n ≡ m
  pub both : (n m b : ℕ) → slice_get files.blocks.places n ≡ Some b → slice_get files.inodes.places m ≡ Some b → ⊥
  pub block_areas : (n b : ℕ) → slice_get files.blocks.places n ≡ Some b → (0 < map_pages r page b) × (0 < area b)
  pub inode_areas : (n b : ℕ) → slice_get files.inodes.places n ≡ Some b → (0 < map_pages r page b) × (0 < area b)

abbrev pub OwnLaw : Type 0
OwnLaw = (s : Super) (page : ℕ → List ℕ) (area : ℕ → ℕ) (blocks : Blocks) (inodes : Inodes) (files : MapFiles) → KnowsFiles s page area blocks inodes files
    → Agrees (readers (blocks_of s)) (volume_of page area blocks inodes) → HasOwnPlaces (readers (blocks_of s)) page area files
