-- Where the maps' files lie on pages whose fixed areas stay.
use Rattle.std.specs.Prelude.{◌≡◌, ◌<◌, ℕ, true, length}
use Rattle.jfs_bits.specs.declared.descriptor.Pxd.{Pxd}
use Rattle.jfs_disk.specs.Crash.{IsCrashImage}
use Rattle.jfs_disk.specs.Image.{Image, page_of}
use Rattle.jfs_shown.specs.objects.specs.Readers.{Readers}
use Rattle.jfs_shown.specs.Laws.{SamePlaces}
use Rattle.jfs_mounted_places.specs.held.specs.survival.specs.face.specs.Places.{Places, is_fixed_page}
use Rattle.jfs_mounted_places.specs.held.specs.survival.specs.halves.specs.Half.{low_in}
use Rattle.jfs_mounted_places.specs.held.specs.survival.specs.face.specs.Recovered.{IsVolumeAt}
use Rattle.jfs_mounted_places.specs.held.specs.survival.specs.recovery.specs.Face.{Pages}
use Rattle.jfs_mounted_places.specs.held.specs.image_volumes.specs.Stands.{FixedStay}
use Rattle.jfs_mounted_places.specs.held.specs.Held.{Mount, Held, IsHeld}

-- They lie where they did, whatever stands on the pages of the maps.
abbrev pub PlacesLaw : Type 0
PlacesLaw = (r : Readers) (blocks agsize numag : ℕ) (table map : Pxd) (pl : Places) (s t : Pages) → IsVolumeAt r blocks agsize numag table map pl s → FixedStay pl s t → SamePlaces r table map s t

-- The first 16 pages, with the superblock, are such pages of the fixed areas.
abbrev pub FirstLaw : Type 0
FirstLaw = (r : Readers) (blocks agsize numag : ℕ) (table map : Pxd) (pl : Places) (s : Pages) → IsVolumeAt r blocks agsize numag table map pl s → (p : ℕ) → p < 16 → is_fixed_page pl p ≡ true

-- And whatever a crash leaves of a held volume has them as they were mounted.
abbrev pub FixedLaw : Type 0
FixedLaw = (m : Mount) (x : Held) (low : Image) → IsHeld m x → IsCrashImage (low_in x.both.volume) low → (p : ℕ) → is_fixed_page m.places p ≡ true → p < length low → page_of low p ≡ x.core.mounted p
