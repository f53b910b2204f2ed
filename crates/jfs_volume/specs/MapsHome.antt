-- Pages of the maps go home.
use Rattle.std.specs.Prelude.{◌≡◌, ◌∷◌, ◌++◌, [], ℕ, suc, Bool, true, false, if◌then◌else◌, List, length, slice_get, Option, Some, None, Result, Ok, Err}
use Rattle.jfs_bits.specs.Field.{AreBytes}
use Rattle.jfs_disk.specs.Image.{page_of}
use Rattle.jfs_disk.specs.declared.disk.Fault.{Fault}
use Rattle.jfs_bmap.specs.MapFile.{IsMapPage, is_in_use}
use Rattle.jfs_bmap.specs.States.{Blocks, is_owned}
use Rattle.jfs_imap.specs.Inodes.{Inodes, IsInodePage}
use Rattle.jfs_map_files.specs.Places.{MapPlaces}
use Rattle.jfs_map_files.specs.declared.map_file.MapFiles.{MapFiles}
use Rattle.jfs_marks.specs.data_steps.specs.declared.pages.DataPage.{DataPage}
use Rattle.jfs_halves.specs.Half.{VolumeHalf}
use Rattle.jfs_halves.specs.Parts.{Parts}
use Rattle.jfs_halves.specs.Moves.{Moves}
use Rattle.jfs_volume.specs.Shown.{AreOwn}
use Rattle.jfs_volume.specs.Written.{writes, StopsAt}

-- ---- which pages are written

-- a page of a map: by its number in the map's file, and the block that is its place
pub data MapPage : Type 0 where
  OfBlocks : (n place : ℕ) → MapPage
  OfInodes : (n place : ℕ) → MapPage

-- the page of a file with a number, where it is in use and has a place
abbrev pub page_at : Bool → (ℕ → MapPage) → Option ℕ → List MapPage
page_at false page place = []
page_at true page None = []
page_at true page (Some place) = page place ∷ []

-- The pages of the block map's file that are in use, of a volume of so many blocks: from page n on, which lie at these places. The inode map's are all in use.
abbrev pub block_pages : ℕ → ℕ → List ℕ → List MapPage
block_pages blocks n [] = []
block_pages blocks n (place ∷ places) = (if is_in_use blocks n then OfBlocks n place ∷ [] else []) ++ block_pages blocks (suc n) places

abbrev pub inode_pages : ℕ → List ℕ → List MapPage
inode_pages n [] = []
inode_pages n (place ∷ places) = OfInodes n place ∷ inode_pages (suc n) places

-- those of a map that has changed since they were written
abbrev pub stale_block_pages : ℕ → MapPlaces → List MapPage
stale_block_pages blocks file = if file.stale then block_pages blocks 0 file.places else []

abbrev pub stale_inode_pages : MapPlaces → List MapPage
stale_inode_pages file = if file.stale then inode_pages 0 file.places else []

-- of both maps, the block map's first
abbrev pub stale_pages : ℕ → MapFiles → List MapPage
stale_pages blocks files = stale_block_pages blocks files.blocks ++ stale_inode_pages files.inodes

-- what is to be written to the block of such a page: the map's page in its canonical form
abbrev pub IsPageOf : Blocks → Inodes → MapPage → DataPage → Type 0
IsPageOf map inodes (OfBlocks n place) d = (d.block ≡ place) × IsMapPage (length map.states) map.agsize (is_owned map) n d.page.0 × AreBytes d.page.0 × (length d.page.0 ≡ 4096)
IsPageOf map inodes (OfInodes n place) d = (d.block ≡ place) × IsInodePage inodes n d.page.0 × AreBytes d.page.0 × (length d.page.0 ≡ 4096)

-- each of them, in their order
abbrev pub ArePagesOf : Blocks → Inodes → List MapPage → List DataPage → Type 0
ArePagesOf map inodes [] [] = Unit {0}
ArePagesOf map inodes [] (d ∷ ds) = ⊥
ArePagesOf map inodes (t ∷ ts) [] = ⊥
ArePagesOf map inodes (t ∷ ts) (d ∷ ds) = IsPageOf map inodes t d × ArePagesOf map inodes ts ds

-- a front of them
abbrev pub AreFirstOf : Blocks → Inodes → List MapPage → List DataPage → Type 0
AreFirstOf map inodes ts [] = Unit {0}
AreFirstOf map inodes [] (d ∷ ds) = ⊥
AreFirstOf map inodes (t ∷ ts) (d ∷ ds) = IsPageOf map inodes t d × AreFirstOf map inodes ts ds

-- ---- what is changed

-- these pages were written, one after the other
pub record AreHome (seen asked : Bool) (ts : List MapPage) (old new : Parts) (half : VolumeHalf) : Type 0 where
  pub pages : List DataPage
  pub are : ArePagesOf old.map old.inodes ts pages
  pub moves : Moves seen asked old new half (writes pages)

-- a front of them was, and then the write of the next one failed
pub record StopsAmong (seen asked : Bool) (ts : List MapPage) (old new : Parts) (half : VolumeHalf) (fault : Fault) : Type 0 where
  pub front : List DataPage
  pub next : DataPage
  pub are : AreFirstOf old.map old.inodes ts (front ++ next ∷ [])
  pub stops : StopsAt seen asked front next old new half fault

abbrev pub GoHome : (seen asked : Bool) → List MapPage → Parts → Parts → VolumeHalf → Result (Unit {0}) Fault → Type 0
GoHome seen asked ts old new half (Ok done) = AreHome seen asked ts old new half
GoHome seen asked ts old new half (Err fault) = StopsAmong seen asked ts old new half fault

-- each page in use of each map that has changed
abbrev pub MapsHome : (seen asked : Bool) → Parts → Parts → VolumeHalf → Result (Unit {0}) Fault → Type 0
MapsHome seen asked old new half result = GoHome seen asked (stale_pages (length old.map.states) old.files) old new half result

-- both maps are as their pages
abbrev pub with_written : MapFiles → MapFiles
with_written files = record { blocks = record files.blocks { stale = false }; inodes = record files.inodes { stale = false } }

abbrev pub with_blocks_written : MapFiles → MapFiles
with_blocks_written files = record files { blocks = record files.blocks { stale = false } }

abbrev pub with_inodes_written : MapFiles → MapFiles
with_inodes_written files = record files { inodes = record files.inodes { stale = false } }

-- nothing changes but pages, the disk and which map is stale
abbrev pub KeepsMemory : Parts → Parts → Type 0
KeepsMemory old new = new ≡ record old { view = new.view; disk = new.disk; past = new.past; faults = new.faults; files = new.files; halted = new.halted }

-- the files of the maps lie where they did
pub record KeepsPlaces (old new : Parts) : Type 0 where
  pub blocks : new.files.blocks.places ≡ old.files.blocks.places
  pub inodes : new.files.inodes.places ≡ old.files.inodes.places

-- ---- what is shown then

-- the pages of both maps' files lie on blocks of their own
pub record AreApart (files : MapFiles) : Type 0 where
  pub blocks : AreOwn files.blocks.places
  pub inodes : AreOwn files.inodes.places
  pub both : (n m b : ℕ) → slice_get files.blocks.places n ≡ Some b → slice_get files.inodes.places m ≡ Some b → ⊥

-- each page in use of the block map's file, and each page of the inode map's, is the map's in its canonical form
abbrev pub ShowsBlockMap : Parts → Type 0
ShowsBlockMap p = (n b : ℕ) → is_in_use (length p.map.states) n ≡ true → slice_get p.files.blocks.places n ≡ Some b → IsMapPage (length p.map.states) p.map.agsize (is_owned p.map) n (page_of p.view b)

abbrev pub ShowsInodeMap : Parts → Type 0
ShowsInodeMap p = (n b : ℕ) → slice_get p.files.inodes.places n ≡ Some b → IsInodePage p.inodes n (page_of p.view b)

-- the block holds no page of a map
abbrev pub HoldsNone : MapFiles → ℕ → Type 0
HoldsNone files b = ((n : ℕ) → slice_get files.blocks.places n ≡ Some b → ⊥) × ((n : ℕ) → slice_get files.inodes.places n ≡ Some b → ⊥)

-- A map that had changed, and counts as written then, is shown in its canonical form, and the pages of one that hadn't stay; so do all other pages. Where a write failed, a map whose pages weren't all written counts as changed still.
pub record ShowsAfter (old new : Parts) : Type 0 where
  pub block_map : AreApart old.files → old.files.blocks.stale ≡ true → new.files.blocks.stale ≡ false → ShowsBlockMap new
  pub inode_map : AreApart old.files → old.files.inodes.stale ≡ true → new.files.inodes.stale ≡ false → ShowsInodeMap new
  pub block_pages : AreApart old.files → old.files.blocks.stale ≡ false → (n b : ℕ) → slice_get old.files.blocks.places n ≡ Some b → page_of new.view b ≡ page_of old.view b
  pub inode_pages : AreApart old.files → old.files.inodes.stale ≡ false → (n b : ℕ) → slice_get old.files.inodes.places n ≡ Some b → page_of new.view b ≡ page_of old.view b
  pub others : (b : ℕ) → HoldsNone old.files b → page_of new.view b ≡ page_of old.view b
  pub size : length new.view ≡ length old.view
