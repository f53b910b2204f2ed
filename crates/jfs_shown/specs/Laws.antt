-- What follows where pages show the maps, and what keeps the maps' files where they are.
use Rattle.std.specs.Prelude.{◌≡◌, ◌≢◌, ◌<◌, ◌+◌, ◌*◌, ℕ, List, length}
use Rattle.jfs_bits.specs.declared.descriptor.Pxd.{Pxd}
use Rattle.jfs_super.specs.Rules.{blocks_of}
use Rattle.jfs_super.specs.declared.fields.Super.{Super}
use Rattle.jfs_way.specs.imap.specs.Inodes.{Inodes, IsInodePage}
use Rattle.jfs_way.specs.bmap.specs.MapFile.{IsMapPage}
use Rattle.jfs_way.specs.bmap.specs.States.{Blocks, is_owned}
use Rattle.jfs_way.specs.objects.specs.Readers.{Readers}
use Rattle.jfs_way.specs.objects.specs.Volume.{Volume}
use Rattle.jfs_way.specs.objects.specs.Objects.{met}
use Rattle.jfs_way.specs.objects.specs.Owners.{Agrees, covers}
use Rattle.jfs_way.specs.objects.specs.Image.{file_walk, file_extents, area_on}
use Rattle.jfs_kinds.specs.Images.{HasWholeFiles}
use Rattle.jfs_way.specs.meaning.specs.Readers.{readers}
use Rattle.jfs_way.specs.meaning.specs.Room.{room_on}
use Rattle.jfs_way.specs.meaning.specs.Consistent.{IsConsistent}
use Rattle.jfs_way.specs.meaning.specs.Image as meaning
use Rattle.jfs_way.specs.Volume.{volume_of}
use Rattle.jfs_way.specs.Walk.{tree_in}
use Rattle.jfs_shown.specs.Shown.{ShowsBlocks, ShowsInodes, ShowsMaps}

-- ---- the image

-- The maps in memory are of the volume's size: so many blocks, and 128 places for extents on each IAG.
pub record HasSizes (s : Super) (blocks : Blocks) (inodes : Inodes) : Type 0 where
  pub blocks_are : length blocks.states ≡ blocks_of s
  pub places_are : length inodes.extents ≡ 128 * inodes.iags

-- the fixed areas are those of the pages
abbrev pub AreAreas : Super → (ℕ → List ℕ) → (ℕ → ℕ) → Type 0
AreAreas s page area = (b : ℕ) → area b ≡ area_on (readers (blocks_of s)) s.ait2 s.aim2 page b

-- The volume of the pages and maps is the one that the pages spell: it has their tree and room, and they are consistent.
pub record SpellsVolume (s : Super) (page : ℕ → List ℕ) (area : ℕ → ℕ) (blocks : Blocks) (inodes : Inodes) : Type 0 where
  pub volume_is : volume_of page area blocks inodes ≡ meaning.volume_of s page
  pub tree : tree_in (blocks_of s) page area blocks inodes ≡ meaning.tree_of s page
  pub room : room_on (readers (blocks_of s)) (volume_of page area blocks inodes) (blocks_of s) s.logpxd.len ≡ meaning.room_of s page
  pub consistent : meaning.IsConsistentImage s page

abbrev pub ImageLaw : Type 0
ImageLaw = (s : Super) (page : ℕ → List ℕ) (area : ℕ → ℕ) (blocks : Blocks) (inodes : Inodes) → HasSizes s blocks inodes → AreAreas s page area → ShowsMaps s page blocks inodes
    → IsConsistent (readers (blocks_of s)) (volume_of page area blocks inodes) → SpellsVolume s page area blocks inodes

-- ---- canonical pages

pub record CanonicalLaw : Type 0 where
  pub block_map : (m : Blocks) (j : ℕ) (page : List ℕ) → IsMapPage (length m.states) m.agsize (is_owned m) j page → ShowsBlocks (length m.states) m j page
  pub inode_map : (m : Inodes) (j : ℕ) (page : List ℕ) → IsInodePage m j page → ShowsInodes m j page

-- ---- where the files lie

-- Pages 11 and 13 stay, on which inodes 2, 4 and 16 of the aggregate stand, and the pages of these inodes' extent trees.
pub record KeepsPlaces (r : Readers) (old new : ℕ → List ℕ) : Type 0 where
  pub low_inodes : new 11 ≡ old 11
  pub high_inodes : new 13 ≡ old 13
  pub block_map : (b : ℕ) → 0 < met (file_walk r old 2) b → new b ≡ old b
  pub bad_blocks : (b : ℕ) → 0 < met (file_walk r old 4) b → new b ≡ old b
  pub inode_map : (b : ℕ) → 0 < met (file_walk r old 16) b → new b ≡ old b

-- the files lie where they did, and so do the areas
pub record SamePlaces (r : Readers) (table map : Pxd) (old new : ℕ → List ℕ) : Type 0 where
  pub block_map : file_extents r new 2 ≡ file_extents r old 2
  pub inode_map : file_extents r new 16 ≡ file_extents r old 16
  pub areas : (b : ℕ) → area_on r table map new b ≡ area_on r table map old b
  pub whole : HasWholeFiles r old → HasWholeFiles r new

abbrev pub FilesLaw : Type 0
FilesLaw = (r : Readers) (table map : Pxd) (old new : ℕ → List ℕ) → KeepsPlaces r old new → SamePlaces r table map old new

-- ---- what keeps them there

-- how often a block is a page of one of both maps' files
abbrev pub map_pages : Readers → (ℕ → List ℕ) → ℕ → ℕ
map_pages r page b = covers b (file_extents r page 2) + covers b (file_extents r page 16)

-- the fixed areas stay, but for the superblock's page and the pages of both maps
abbrev pub KeepsAreas : Readers → (ℕ → ℕ) → (ℕ → List ℕ) → (ℕ → List ℕ) → Type 0
KeepsAreas r area old new = (b : ℕ) → b ≢ 8 → 0 < area b → map_pages r old b ≡ 0 → new b ≡ old b

abbrev pub KeepsLaw : Type 0
KeepsLaw = (r : Readers) (table map : Pxd) (v : Volume) (new : ℕ → List ℕ) → Agrees r v → ((b : ℕ) → v.area b ≡ area_on r table map v.page b) → HasWholeFiles r v.page
    → KeepsAreas r v.area v.page new → KeepsPlaces r v.page new
