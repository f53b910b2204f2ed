-- The maps of a volume that is to be mounted.
use Rattle.std.specs.Prelude.{◌≡◌, ◌⊎◌, ℕ, ◌+◌, ◌-◌, ◌*◌, ◌/◌, false, if◌then◌else◌, List, map, Some, None, Result, Ok, Err}
use Rattle.jfs_disk.specs.declared.disk.Fault.{Fault}
use Rattle.jfs_ranges.specs.View.{Failed}
use Rattle.jfs_super.specs.Rules.{blocks_of}
use Rattle.jfs_super.specs.Geometry.{geometry_of}
use Rattle.jfs_super.specs.declared.fields.Super.{Super}
use Rattle.jfs_super.specs.declared.fields.Geometry.{Geometry}
use Rattle.jfs_imap.specs.Inodes.{Inodes}
use Rattle.jfs_bmap.specs.Set.{each_below}
use Rattle.jfs_map_files.specs.Files.{AreFilesOf}
use Rattle.jfs_bmap.specs.MapFile.{pages_of}
use Rattle.jfs_sets.specs.objects.specs.Image.{file_extents}
use Rattle.jfs_mount_maps.specs.Places.{ArePlacesOf}
use Rattle.jfs_bmap.specs.States.{Blocks, Free, Owned, state_of}
use Rattle.jfs_sets.specs.meaning.specs.Readers.{readers}
use Rattle.jfs_sets.specs.meaning.specs.Consistent.{IsConsistent}
use Rattle.jfs_sets.specs.meaning.specs.Image as meaning
use Rattle.jfs_sets.specs.mount_rules.specs.Subject.{Subject, subject_of, blocks, volume}
use Rattle.jfs_sets.specs.mount_rules.specs.Mount.{broken_mount, iags}
use Rattle.jfs_sets.specs.mount_rules.specs.declared.bad.BadMount.{BadMount as Bad}
use Rattle.jfs_sets.specs.Sets.{extent_from}
use Rattle.jfs_claim.specs.way.specs.Volume.{volume_of, PlacesWithin}
use Rattle.jfs_claim.specs.way.specs.Walk.{tree_in}
use Rattle.jfs_claim.specs.room.specs.Laws.{blocks_in}
use Rattle.jfs_claim.specs.Look.{room_of, IsAtRest}
use Rattle.jfs_mount_maps.specs.declared.found.FoundMaps.{FoundMaps}
use Rattle.jfs_mount_maps.specs.declared.found.MapsError.{MapsError}
use Rattle.jfs_mount_maps.specs.declared.found.MapsError.TheVariants.{BadImage, Read, Memory}

-- ---- on every view

-- Each block has an owner or is free: none is reserved for an entry, and none waits for one.
abbrev pub IsIdle : Blocks → Type 0
IsIdle m = (b : ℕ) → (state_of m b ≡ Free) ⊎ (state_of m b ≡ Owned)

-- The maps are between calls, as file calls take them: of as many blocks as the volume has, inode extents lie within it, and files may grow as far as its log lets them.
pub record AreAtRest (layout : Geometry) (maps : FoundMaps) : Type 0 where
  pub number : blocks_in maps.blocks ≡ layout.blocks
  pub idle : IsIdle maps.blocks
  pub rest : IsAtRest maps.blocks maps.inodes
  pub within : PlacesWithin layout.blocks maps.inodes
  pub limit : maps.file_limit ≡ layout.file_limit
  -- The pages of both maps' files lie within the volume, and the maps are as they are.
  pub files : AreFilesOf layout.blocks (pages_of layout.blocks) maps.inodes.iags maps.files
  pub fresh : (maps.files.blocks.stale ≡ false) × (maps.files.inodes.stale ≡ false)

-- the count of faults rises only with a fault, which carries the part and the count that it raised
abbrev pub CarriesMaps : Fault → Fault → Result FoundMaps MapsError → Type 0
CarriesMaps before now (Ok maps) = now ≡ before
CarriesMaps before now (Err (BadImage bad)) = now ≡ before
CarriesMaps before now (Err (Read fault)) = Failed before now × (fault ≡ now)
CarriesMaps before now (Err Memory) = now ≡ before

-- ---- by the image

-- how many allocation groups a volume has
abbrev pub groups_of : Geometry → ℕ
groups_of g = (g.blocks + g.agsize - 1) / g.agsize

-- the blocks as the image has them
abbrev pub blocks_on : Subject → Blocks
blocks_on s = record { states = each_below (blocks s) (λ b. if (volume s).used b then Owned else Free); agsize = s.super.agsize; spare = 0 }

-- The inodes as the image has them; each page of the inode map (IAG) stands for 4,096.
abbrev pub inodes_on : Subject → Inodes
inodes_on s = record {
  taken = each_below (4096 * iags s) (volume s).in_use;
  extents = map extent_from (volume s).extents;
  iags = iags s;
  agsize = s.super.agsize;
  numag = groups_of (geometry_of s.super);
}

-- No rule of a mount is broken, and the maps are those of the image. So the volume that its pages and these maps are is the image's, with its areas.
pub record AreMapsOf (s : Subject) (maps : FoundMaps) : Type 0 where
  pub unbroken : broken_mount s ≡ None
  pub blocks_are : maps.blocks ≡ blocks_on s
  pub inodes_are : maps.inodes ≡ inodes_on s
  pub block_places : ArePlacesOf (file_extents s.readers s.page 2) maps.files.blocks.places
  pub inode_places : ArePlacesOf (file_extents s.readers s.page 16) maps.files.inodes.places
  pub volume_is : volume_of s.page (volume s).area maps.blocks maps.inodes ≡ volume s

-- Maps are found where no rule is broken; else the first broken rule is told, with its page and the value there.
abbrev pub Finds : Subject → Result FoundMaps Bad → Type 0
Finds s (Ok maps) = AreMapsOf s maps
Finds s (Err bad) = broken_mount s ≡ Some bad

-- a fault and want of memory come whatever the image has
abbrev pub FindsMaps : Subject → Result FoundMaps MapsError → Type 0
FindsMaps s (Ok maps) = AreMapsOf s maps
FindsMaps s (Err (BadImage bad)) = broken_mount s ≡ Some bad
FindsMaps s (Err (Read fault)) = Unit {0}
FindsMaps s (Err Memory) = Unit {0}

-- ---- what follows

-- The pages and these maps, with the image's areas, have the image's tree and room, and are a consistent volume where the image is one.
pub record GiveImage (super : Super) (page : ℕ → List ℕ) (maps : FoundMaps) : Type 0 where
  pub tree : tree_in (blocks_of super) page (meaning.volume_of super page).area maps.blocks maps.inodes ≡ meaning.tree_of super page
  pub room : room_of page (meaning.volume_of super page).area maps.blocks maps.inodes super.logpxd.len ≡ meaning.room_of super page
  pub consistent : meaning.IsConsistentImage super page → IsConsistent (readers (blocks_of super)) (volume_of page (meaning.volume_of super page).area maps.blocks maps.inodes)

abbrev pub MapsLaw : Type 0
MapsLaw = (super : Super) (page : ℕ → List ℕ) (maps : FoundMaps) → AreMapsOf (subject_of super page) maps → GiveImage super page maps
