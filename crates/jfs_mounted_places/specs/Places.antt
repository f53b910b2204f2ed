-- Where the maps of a volume stand, by its superblock and by what is known of the maps' files.
use Rattle.std.specs.Prelude.{◌≡◌, ◌≤◌, ◌<◌, ◌+◌, ◌-◌, ◌/◌, ◌^◌, ℕ, List, false, slice_get, Some}
use Rattle.jfs_super.specs.Rules.{blocks_of, IsAccepted}
use Rattle.jfs_super.specs.declared.fields.Super.{Super}
use Rattle.jfs_shown.specs.imap.specs.Inodes.{Inodes}
use Rattle.jfs_shown.specs.bmap.specs.States.{Blocks}
use Rattle.jfs_shown.specs.map_files.specs.declared.map_file.MapFiles.{MapFiles}
use Rattle.jfs_shown.specs.objects.specs.Image.{iags_on}
use Rattle.jfs_shown.specs.meaning.specs.Image as meaning
use Rattle.jfs_shown.specs.meaning.specs.Readers.{readers}
use Rattle.jfs_shown.specs.meaning.specs.Consistent.{IsConsistent}
use Rattle.jfs_shown.specs.way.specs.Volume.{volume_of}
use Rattle.jfs_shown.specs.Files.{KnowsFiles}
use Rattle.jfs_held_volumes.specs.survival.specs.face.specs.Places.{Places}
use Rattle.jfs_held_volumes.specs.survival.specs.face.specs.Mounted.{places_on}
use Rattle.jfs_held_volumes.specs.survival.specs.face.specs.Recovered.{IsVolumeAt}
use Rattle.jfs_held_volumes.specs.canonical_maps.specs.Places.{FitMaps}

-- ---- the places

-- how many allocation groups a volume has
abbrev pub groups_of : Super → ℕ
groups_of s = (blocks_of s + s.agsize - 1) / s.agsize

abbrev pub places_of : Super → (ℕ → List ℕ) → Places
places_of s page = places_on (readers (blocks_of s)) (blocks_of s) s.agsize (groups_of s) s.ait2 s.aim2 page

-- Its numbers fit, where there are no more IAGs than a mount lets pass. (The size of a group is a field of 32 bits.)
abbrev pub FitLaw : Type 0
FitLaw = (s : Super) (pages : ℕ) (page : ℕ → List ℕ) → IsAccepted s pages → s.agsize < 2 ^ 32 → iags_on (readers (blocks_of s)) page ≤ 65536 → FitMaps (places_of s page)

-- ---- the files

-- A volume of pages and maps in memory is the one that its pages spell, whose maps agree, and both files stand in these places.
pub record StandsInPlaces (s : Super) (page : ℕ → List ℕ) (area : ℕ → ℕ) (blocks : Blocks) (inodes : Inodes) (files : MapFiles) : Type 0 where
  pub volume_is : volume_of page area blocks inodes ≡ meaning.volume_of s page
  pub stands : IsVolumeAt (readers (blocks_of s)) (blocks_of s) s.agsize (groups_of s) s.ait2 s.aim2 (places_of s page) page
  pub iags : iags_on (readers (blocks_of s)) page ≡ inodes.iags
  pub block_places : (k b : ℕ) → slice_get files.blocks.places k ≡ Some b → (places_of s page).block_map k ≡ b
  pub inode_places : (k b : ℕ) → slice_get files.inodes.places k ≡ Some b → (places_of s page).inode_map k ≡ b

abbrev pub KnownLaw : Type 0
KnownLaw = (s : Super) (page : ℕ → List ℕ) (area : ℕ → ℕ) (blocks : Blocks) (inodes : Inodes) (files : MapFiles) → KnowsFiles s page area blocks inodes files → files.blocks.stale ≡ false → files.inodes.stale ≡ false
    → IsConsistent (readers (blocks_of s)) (volume_of page area blocks inodes) → StandsInPlaces s page area blocks inodes files
