-- What is known of the pages that a crash left of a held volume.
use Rattle.std.proofs.Common.{◌≡◌, ◌<◌, ◌≤◌, ℕ, true, is_some}
use Rattle.jfs_disk.specs.Image.{Image, page_of}
use Rattle.jfs_super.specs.Rules.{blocks_of}
use Rattle.jfs_super.specs.declared.fields.Super.{Super}
use Rattle.jfs_shown.specs.bmap.specs.MapFile.{pages_of}
use Rattle.jfs_shown.specs.meaning.specs.Readers.{readers}
use Rattle.jfs_shown.specs.objects.specs.Contents.{block_of}
use Rattle.jfs_shown.specs.objects.specs.Image.{file_extents, file_page, iags_on}
use Rattle.jfs_left_maps.specs.Items.{HasFours}
use Rattle.jfs_left_maps.specs.Sizes.{SaysSizes}
use Rattle.jfs_held_maps.specs.mounted_places.specs.held.specs.survival.specs.MapMarks.{map_marks}
use Rattle.jfs_held_maps.specs.mounted_places.specs.held.specs.survival.specs.face.specs.Mounted.{HasMapPages}
use Rattle.jfs_held_maps.specs.mounted_places.specs.held.specs.survival.specs.face.specs.Places.{Places, AreInAreas, is_map_page}
use Rattle.jfs_held_maps.specs.mounted_places.specs.held.specs.survival.specs.face.specs.Recovered.{IsVolumeAt}
use Rattle.jfs_held_maps.specs.mounted_places.specs.held.specs.survival.specs.face.specs.Volume.{face_of}
use Rattle.jfs_held_maps.specs.mounted_places.specs.held.specs.survival.specs.recovery.specs.Core.{Core, count, image}
use Rattle.jfs_held_maps.specs.mounted_places.specs.held.specs.survival.specs.recovery.specs.Face.{Pages}
use Rattle.jfs_held_maps.specs.mounted_places.specs.held.specs.survival.specs.recovery.specs.Sound.{IsSound, IsLeft, IsLogImage, window}
use Rattle.jfs_held_maps.specs.mounted_places.specs.Places.{groups_of}
use Rattle.jfs_crashed.specs.Crashed.{KeepsApart}
use Rattle.jfs_redone_volumes.specs.Redone.{found_places}

-- The maps stand in these places on the images of a core's history, and on an image of the disk; `left` are its pages, and past the volume's part what a disk has there.
pub record AreFacts (s : Super) (pl : Places) (core : Core) (left : Pages) (old : Image) : Type 0 where
  pub sound : IsSound (face_of (readers (blocks_of s)) pl (map_marks pl)) core
  pub areas : AreInAreas pl
  pub stands : (k : ℕ) → k ≤ count core → IsVolumeAt (readers (blocks_of s)) (blocks_of s) s.agsize (groups_of s) s.ait2 s.aim2 pl (image core k)
  pub superblock : page_of old 8 ≡ core.mounted 8
  pub within : (p : ℕ) → is_map_page pl p ≡ true → p < blocks_of s
  pub few : pl.iags ≤ 65536
  pub some : 1 ≤ pl.iags
  pub fours : HasFours pl core.mounted
  pub is_left : IsLeft core left
  pub same_low : (p : ℕ) → p < blocks_of s → left p ≡ page_of old p
  pub whole : (k : ℕ) → k < pages_of (blocks_of s) → is_some (block_of (file_extents (readers (blocks_of s)) (page_of old) 2) k) ≡ true
  pub block_left : file_page (readers (blocks_of s)) (page_of old) 2 0 ≡ left (pl.block_map 0)
  pub inode_left : (k : ℕ) → k ≤ pl.iags → file_page (readers (blocks_of s)) (page_of old) 16 k ≡ left (pl.inode_map k)
  pub says : (p : ℕ) → SaysSizes pl p (left p)
  pub number : iags_on (readers (blocks_of s)) (page_of old) ≡ pl.iags
  pub has_pages : HasMapPages (readers (blocks_of s)) (blocks_of s) (page_of old)
  pub places_are : found_places s old ≡ pl
  pub keeps_apart : (c n : ℕ) → IsLogImage core c n → KeepsApart s (window core c n) old
