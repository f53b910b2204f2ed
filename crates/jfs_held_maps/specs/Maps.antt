-- What a mount looked at of a volume's maps, and what goes on being so: of each held volume, whatever is written and logged.
use Rattle.std.specs.Prelude.{◌≡◌, ◌≤◌, ◌<◌, ℕ, true, false, List, length, is_some, None}
use Rattle.std.specs.List.{AllByRecursion}
use Rattle.jfs_ranges.specs.Apply.{touches_tx}
use Rattle.jfs_super.specs.declared.fields.Super.{Super}
use Rattle.jfs_steps.specs.bmap.specs.MapFile.{pages_of}
use Rattle.jfs_mount.specs.Mount.{broken_maps}
use Rattle.jfs_mount.specs.Subject.{subject_of}
use Rattle.jfs_shown.specs.map_files.specs.declared.map_file.MapFiles.{MapFiles}
use Rattle.jfs_shown.specs.objects.specs.Contents.{block_of}
use Rattle.jfs_shown.specs.objects.specs.Image.{file_extents}
use Rattle.jfs_left_maps.specs.Items.{HasFours}
use Rattle.jfs_left_maps.specs.Sizes.{KeepsSizes}
use Rattle.jfs_mounted_places.specs.held.specs.survival.specs.face.specs.Places.{is_map_page}
use Rattle.jfs_mounted_places.specs.held.specs.survival.specs.halves.specs.Both.{BothChange, Fits}
use Rattle.jfs_mounted_places.specs.held.specs.survival.specs.halves.specs.Entry.{Shown, edits}
use Rattle.jfs_mounted_places.specs.held.specs.survival.specs.recovery.specs.Face.{Pages}
use Rattle.jfs_mounted_places.specs.held.specs.survival.specs.recovery.specs.objects.specs.Volume.{Volume}
use Rattle.jfs_mounted_places.specs.held.specs.Held.{Mount, Held, IsHeld}
use Rattle.jfs_mounted_places.specs.held.specs.Changes.{MayChange, Made, next, after, AllMay}
use Rattle.jfs_mounted_places.specs.Mounted.{IsMounted, mount_of, held_from}

-- The volume's part of the disk has a page for each block. There is an inode allocation group (IAG); the block map's file had a block for each of its pages, and each inode extent had four blocks, when the volume was mounted.
-- The maps say their sizes, and no entry has a line of a page of theirs.
pub record KeepsMaps (m : Mount) (x : Held) : Type 0 where
  pub room : m.blocks ≤ length x.both.volume.blocks
  pub some : 1 ≤ m.places.iags
  pub whole : (k : ℕ) → k < pages_of m.blocks → is_some (block_of (file_extents m.readers x.core.mounted 2) k) ≡ true
  pub extents : HasFours m.places x.core.mounted
  pub sizes : KeepsSizes m.places x.core
  pub lines : (p : ℕ) → is_map_page m.places p ≡ true → AllByRecursion (λ h. touches_tx p (edits h) ≡ false) x.both.volume.history

-- So it is where a mount found no rule of the maps broken.
abbrev pub MountedLaw : Type 0
MountedLaw = (s : Super) (pages ring : ℕ) (low : Pages) (shown : Shown) (area : ℕ → ℕ) (files : MapFiles) → IsMounted s pages low shown area files → broken_maps (subject_of s low) ≡ None
    → KeepsMaps (mount_of s low) (held_from s ring low shown area)

abbrev pub ChangeLaw : Type 0
ChangeLaw = (m : Mount) (x : Held) (c : BothChange) (w : Volume) → IsHeld m x → KeepsMaps m x → Fits x.both c → MayChange m x c w → KeepsMaps m (next m x c w)

abbrev pub RunLaw : Type 0
RunLaw = (m : Mount) (x : Held) (ds : List Made) → IsHeld m x → KeepsMaps m x → AllMay m x ds → KeepsMaps m (after m x ds)

-- It doesn't look at the volumes.
abbrev pub ReplaceLaw : Type 0
ReplaceLaw = (m : Mount) (x : Held) (w : Volume) (volumes : ℕ → Volume) → KeepsMaps m x → KeepsMaps m (record x { volume = w; volumes = volumes })
