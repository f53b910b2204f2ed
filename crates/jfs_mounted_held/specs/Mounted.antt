-- A volume that was just mounted.
use Rattle.std.specs.Bool.{⊤}
use Rattle.std.specs.Prelude.{◌≤◌, ◌<◌, ◌^◌, ◌-◌, ℕ, nat_lt, if◌then◌else◌, length, replicate}
use Rattle.jfs_disk.specs.Image.{Image, page_of, ArePages}
use Rattle.jfs_super.specs.Rules.{blocks_of, IsAccepted}
use Rattle.jfs_super.specs.declared.fields.Super.{Super}
use Rattle.jfs_unmount.specs.volume_calls.specs.halves.specs.Entry.{Shown}
use Rattle.jfs_unmount.specs.volume_calls.specs.halves.specs.Log.{LogParts}
use Rattle.jfs_unmount.specs.volume_calls.specs.halves.specs.Parts.{Parts}
use Rattle.jfs_unmount.specs.mounted.specs.Mount.{IsMountOf}
use Rattle.jfs_shown.specs.kinds.specs.Images.{HasWholeFiles}
use Rattle.jfs_shown.specs.meaning.specs.Image.{IsConsistentImage}
use Rattle.jfs_shown.specs.meaning.specs.Image as meaning
use Rattle.jfs_shown.specs.meaning.specs.Readers.{readers}
use Rattle.jfs_mounted_places.specs.held.specs.survival.specs.recovery.specs.Face.{Pages}
use Rattle.jfs_mounted_places.specs.held.specs.canonical_maps.specs.Laws.{HasMapBytes}
use Rattle.jfs_mounted_places.specs.held.specs.Held.{Held}
use Rattle.jfs_mounted_places.specs.Mounted.{SetsPast, mount_of, held_from}
use Rattle.jfs_mounted_places.specs.Places.{places_of}
use Rattle.jfs_joined_held.specs.Held.{IsHeldAs}

-- the pages that are shown, and zeros past them
abbrev pub low_of : Image → Pages
low_of image p = if nat_lt p (length image) then page_of image p else replicate 4096 0

-- what a volume shows whose pages and maps were found so
abbrev pub shown_by : {s : Super} {old : Image} {p : Parts} {log : LogParts} → IsMountOf ⊤ ⊥ s old p log → Shown
shown_by m = record { pages = m.pages; map = m.maps.blocks; inodes = m.maps.inodes }

-- the halves, the core and the volumes of a mount
abbrev pub from_mount : (s : Super) (old : Image) {p : Parts} {log : LogParts} → IsMountOf ⊤ ⊥ s old p log → Held
from_mount s old m = held_from s (s.logpxd.len - 2) (low_of m.pages) (shown_by m) (meaning.volume_of s (page_of old)).area

-- A consistent image on a disk of whole pages. The trees of the maps' files and of the bad blocks' break no rule, the maps' pages are of bytes, and the bits of blocks past the volume's end are set: no rule of a mount says so.
pub record IsSoundMount (s : Super) (count : ℕ) (old pages : Image) : Type 0 where
  pub accepted : IsAccepted s count
  pub group : s.agsize < 2 ^ 32
  pub whole : ArePages (length pages) pages
  pub room : blocks_of s ≤ length pages
  pub consistent : IsConsistentImage s (page_of old)
  pub files : HasWholeFiles (readers (blocks_of s)) (page_of old)
  pub bytes : HasMapBytes (places_of s (low_of pages)) (low_of pages)
  pub past : SetsPast (places_of s (low_of pages)) (low_of pages)

abbrev pub MountedLaw : Type 0
MountedLaw = (s : Super) (count : ℕ) (old : Image) (p : Parts) (log : LogParts) → (m : IsMountOf ⊤ ⊥ s old p log) → IsSoundMount s count old m.pages
    → IsHeldAs (mount_of s (low_of m.pages)) (meaning.volume_of s (page_of old)).area p (from_mount s old m).both (from_mount s old m).core (from_mount s old m).volumes
