-- A transaction from one volume to the next is an entry of a mounted volume's halves.
use Rattle.std.specs.Prelude.{◌≡◌, ◌≤◌, ℕ, true, false, length}
use Rattle.jfs_bits.specs.declared.descriptor.Pxd.{Pxd}
use Rattle.jfs_ranges.specs.Apply.{touches_tx}
use Rattle.jfs_survival.specs.halves.specs.Entry.{Happened, edits}
use Rattle.jfs_survival.specs.halves.specs.Half.{Halves}
use Rattle.jfs_survival.specs.recovery.specs.records.specs.Redo.{closes_in}
use Rattle.jfs_survival.specs.recovery.specs.objects.specs.Readers.{Readers}
use Rattle.jfs_survival.specs.recovery.specs.objects.specs.Volume.{Volume}
use Rattle.jfs_survival.specs.recovery.specs.Core.{Core, count, image}
use Rattle.jfs_survival.specs.face.specs.Places.{Places, is_map_page}
use Rattle.jfs_survival.specs.Enters.{IsLoggedEntry}
use Rattle.jfs_canonical_maps.specs.Places.{FitMaps}
use Rattle.jfs_canonical_maps.specs.Images.{after_entry}
use Rattle.jfs_image_volumes.specs.Next.{IsImageOfVolume, MayFollow}

-- It tells no page of a map, and nothing past the volume's part of the disk.
pub record KeepsToItsPart (pl : Places) (both : Halves) (h : Happened) : Type 0 where
  pub no_maps : (p : ℕ) → is_map_page pl p ≡ true → touches_tx p (edits h) ≡ false
  pub within : (p : ℕ) → length both.volume.blocks ≤ p → (touches_tx p (edits h) ≡ false) × (closes_in p (edits h) ≡ false) × (is_map_page pl p ≡ false)

-- Where the newest image of a core is a volume's, such an entry is one that the core's laws ask for, and its image is the one after it.
abbrev pub EnteredLaw : Type 0
EnteredLaw = (r : Readers) (blocks agsize numag : ℕ) (table map : Pxd) (pl : Places) (both : Halves) (core : Core) (h : Happened) (v w : Volume) → FitMaps pl
    → IsImageOfVolume r blocks agsize numag table map pl (image core (count core)) v → MayFollow r pl v w (edits h) → KeepsToItsPart pl both h
    → IsLoggedEntry r pl both core h (after_entry pl (image core (count core)) (edits h)) v w
