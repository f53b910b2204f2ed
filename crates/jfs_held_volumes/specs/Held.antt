-- A mounted volume between two changes of its halves, and the volumes of its history.
use Rattle.std.specs.Prelude.{◌≡◌, ◌≤◌, ◌<◌, ℕ, true, length}
use Rattle.jfs_bits.specs.declared.descriptor.Pxd.{Pxd}
use Rattle.jfs_image_volumes.specs.survival.specs.halves.specs.Half.{Halves}
use Rattle.jfs_image_volumes.specs.survival.specs.recovery.specs.objects.specs.Readers.{Readers}
use Rattle.jfs_image_volumes.specs.survival.specs.recovery.specs.objects.specs.Volume.{Volume}
use Rattle.jfs_image_volumes.specs.survival.specs.recovery.specs.Face.{Face, Pages}
use Rattle.jfs_image_volumes.specs.survival.specs.recovery.specs.Core.{Core, count, image}
use Rattle.jfs_image_volumes.specs.survival.specs.face.specs.Places.{Places, is_map_page}
use Rattle.jfs_image_volumes.specs.survival.specs.face.specs.Volume.{face_of}
use Rattle.jfs_image_volumes.specs.survival.specs.Stands.{IsCoreOf}
use Rattle.jfs_image_volumes.specs.survival.specs.Busy.{HasStates}
use Rattle.jfs_image_volumes.specs.survival.specs.MapMarks.{map_marks}
use Rattle.jfs_image_volumes.specs.canonical_maps.specs.Places.{FitMaps}
use Rattle.jfs_image_volumes.specs.Next.{IsImageOfVolume}

-- What the superblock and the maps' files said when the volume was mounted: how roots and pages of trees read, the number of blocks, in groups of how many and how many of these, where the second inode table and map stand, and where the maps do.
pub record Mount : Type 0 where
  pub readers : Readers
  pub blocks : ℕ
  pub agsize : ℕ
  pub numag : ℕ
  pub table : Pxd
  pub map : Pxd
  pub places : Places

-- It shows itself to the core so; all pages of a map are dirty with an entry that changes it.
abbrev pub face_at : Mount → Face
face_at m = face_of m.readers m.places (map_marks m.places)

-- an image is a volume's
abbrev pub IsImageAt : Mount → Pages → Volume → Type 0
IsImageAt m s v = IsImageOfVolume m.readers m.blocks m.agsize m.numag m.table m.map m.places s v

-- its halves and their core, the volume now, and the volume after so many entries
pub record Held : Type 0 where
  pub both : Halves
  pub core : Core
  pub volume : Volume
  pub volumes : ℕ → Volume

abbrev pub newest_image : Held → Pages
newest_image x = image x.core (count x.core)

-- The core is that of the halves, whose block map has the blocks with owners and the busy ones. Each image of its history is the volume's after so many entries; the newest one is also that of the volume now, which may have other data by then. What is in use now is a block of the map, and the maps' pages are pages of the volume's part of the disk.
pub record IsHeld (m : Mount) (x : Held) : Type 0 where
  pub fits : FitMaps m.places
  pub core_is : IsCoreOf (face_at m) x.both x.core
  pub states : HasStates (face_at m) x.both x.core
  pub images : (k : ℕ) → k ≤ count x.core → IsImageAt m (image x.core k) (x.volumes k)
  pub now : IsImageAt m (newest_image x) x.volume
  pub mapped : (b : ℕ) → x.volume.used b ≡ true → b < length x.both.volume.shown.map.states
  pub maps_within : (p : ℕ) → is_map_page m.places p ≡ true → p < length x.both.volume.blocks
