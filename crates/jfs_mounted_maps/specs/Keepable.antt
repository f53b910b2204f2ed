-- A mount of an image that is keepable: whatever a crash leaves of it behind calls can be redone.
use Rattle.std.specs.Bool.{⊤}
use Rattle.std.specs.Prelude.{◌<◌, ◌^◌, ℕ, List, length}
use Rattle.jfs_bits.specs.Field.{AreBytes}
use Rattle.jfs_disk.specs.Image.{Image, page_of, ArePages}
use Rattle.jfs_super.specs.Rules.{blocks_of, IsAccepted}
use Rattle.jfs_super.specs.declared.fields.Super.{Super}
use Rattle.jfs_volume_calls.specs.halves.specs.Log.{LogParts}
use Rattle.jfs_volume_calls.specs.halves.specs.Parts.{Parts}
use Rattle.jfs_mounted_held.specs.unmount.specs.mounted.specs.Mount.{IsMountOf}
use Rattle.jfs_findings_new.specs.findings.specs.Clean.{IsSoundVolume}
use Rattle.jfs_findings_new.specs.mount_rules.specs.Subject.{subject_of}
use Rattle.jfs_shown.specs.kinds.specs.Images.{HasWholeFiles}
use Rattle.jfs_shown.specs.meaning.specs.Image as meaning
use Rattle.jfs_shown.specs.meaning.specs.Readers.{readers}
use Rattle.jfs_mounted_held.specs.mounted_places.specs.Mounted.{SetsPast, mount_of}
use Rattle.jfs_mounted_held.specs.mounted_places.specs.Places.{places_of}
use Rattle.jfs_mounted_held.specs.joined_held.specs.Held.{IsHeldAs, held_at}
use Rattle.jfs_held_maps.specs.Maps.{KeepsMaps}
use Rattle.jfs_mounted_held.specs.Mounted.{low_of, from_mount}

-- What a volume has to be, so that it can be kept for a redo: it is consistent, no tree of the maps' files and of the bad blocks' breaks a rule, and on the block map's last dmap the bits of blocks past the volume's end are set.
pub record IsKeepable (s : Super) (page : ℕ → List ℕ) : Type 0 where
  pub consistent : meaning.IsConsistentImage s page
  pub files : HasWholeFiles (readers (blocks_of s)) page
  pub past : SetsPast (places_of s page) page

-- A volume on which a check finds nothing is keepable.
abbrev pub KeepableLaw : Type 0
KeepableLaw = (s : Super) (page : ℕ → List ℕ) → IsSoundVolume (subject_of s page) → IsKeepable s page

-- The image that is mounted is keepable, with an accepted superblock, on pages of bytes. The pages that the mount leaves are whole, as a disk has them.
pub record IsKeepableMount (s : Super) (old pages : Image) : Type 0 where
  pub accepted : IsAccepted s (length old)
  pub group : s.agsize < 2 ^ 32
  pub bytes : (p : ℕ) → AreBytes (page_of old p)
  pub whole : ArePages (length pages) pages
  pub keepable : IsKeepable s (page_of old)

-- The parts that it leaves are held, and the maps are as the mount looked at them.
pub record IsHeldFromMount (s : Super) (old : Image) (p : Parts) (log : LogParts) (m : IsMountOf ⊤ ⊥ s old p log) : Type 0 where
  pub held : IsHeldAs (mount_of s (low_of m.pages)) (meaning.volume_of s (page_of old)).area p (from_mount s old m).both (from_mount s old m).core (from_mount s old m).volumes
  pub maps : KeepsMaps (mount_of s (low_of m.pages)) (held_at (from_mount s old m).both (from_mount s old m).core (from_mount s old m).volumes (meaning.volume_of s (page_of old)).area p)

abbrev pub MountedLaw : Type 0
MountedLaw = (s : Super) (old : Image) (p : Parts) (log : LogParts) → (m : IsMountOf ⊤ ⊥ s old p log) → IsKeepableMount s old m.pages → IsHeldFromMount s old p log m
