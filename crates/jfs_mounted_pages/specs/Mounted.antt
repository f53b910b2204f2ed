-- The pages of a volume that was just mounted.
use Rattle.std.specs.Bool.{⊤}
use Rattle.std.specs.Prelude.{ℕ}
use Rattle.jfs_disk.specs.Image.{Image, page_of}
use Rattle.jfs_super.specs.declared.fields.Super.{Super}
use Rattle.jfs_left_maps.specs.Items.{HasFours}
use Rattle.jfs_mounted_held.specs.Mounted.{low_of, from_mount, IsSoundMount}
use Rattle.jfs_mounted_held.specs.mounted.specs.Mount.{IsMountOf}
use Rattle.jfs_mounted_held.specs.mounted_places.specs.Mounted.{mount_of}
use Rattle.jfs_mounted_held.specs.mounted_places.specs.Places.{places_of}
use Rattle.jfs_mounted_held.specs.shown.specs.meaning.specs.Image as meaning
use Rattle.jfs_pages_held.specs.Pages.{PagesKept}
use Rattle.jfs_volume_calls.specs.halves.specs.Log.{LogParts}
use Rattle.jfs_volume_calls.specs.halves.specs.Parts.{Parts}

-- None is dirty, and the maps are as their pages, where each inode extent on these has four blocks, as a rule of a mount has it (`KeepsMaps` of jfs_held_maps).
abbrev pub MountedLaw : Type 0
MountedLaw = (s : Super) (count : ℕ) (old : Image) (p : Parts) (log : LogParts) → (m : IsMountOf ⊤ ⊥ s old p log) → IsSoundMount s count old m.pages → HasFours (places_of s (low_of m.pages)) (from_mount s old m).core.mounted
    → PagesKept (mount_of s (low_of m.pages)) (meaning.volume_of s (page_of old)).area p (from_mount s old m).both (from_mount s old m).core
