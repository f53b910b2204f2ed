-- A crash of a mounted volume that is held, and the redo of its disk.
use Rattle.std.specs.Prelude.{◌≡◌, ◌⊎◌, ◌≤◌, ◌<◌, ◌+◌, ◌-◌, ◌/◌, ℕ, List, length, drop, None, Err}
use Rattle.jfs_bits.specs.Field.{AreBytes}
use Rattle.jfs_disk.specs.Crash.{IsCrashImage}
use Rattle.jfs_disk.specs.Image.{Image, page_of, ArePages}
use Rattle.jfs_ranges.specs.declared.edit.Edit.{Edit}
use Rattle.jfs_super.specs.Rules.{blocks_of}
use Rattle.jfs_super.specs.declared.fields.Super.{Super}
use Rattle.jfs_records.specs.Entries.{text_size}
use Rattle.jfs_records.specs.logpages.specs.Fresh.{own_label}
use Rattle.jfs_records.specs.logpages.specs.Group.{Holds}
use Rattle.jfs_records.specs.logpages.specs.ReadLog.{HasSuper, label_of}
use Rattle.jfs_records.specs.logpages.specs.Ring.{ReadsPrefix}
use Rattle.jfs_records.specs.logpages.specs.declared.last.Last.{Last}
use Rattle.jfs_log_window.specs.Window.{IsLogOfHalves, stable_text, group_text, group_ends}
use Rattle.jfs_redo.specs.Log.{AreCommitted}
use Rattle.jfs_redo.specs.Partly.{IsPartlyRedone, MapsStandApart}
use Rattle.jfs_redo.specs.Redo.{IsRedone, IsRefusal, RedoIs}
use Rattle.jfs_redo.specs.declared.error.RedoError.{RedoError}
use Rattle.jfs_redo.specs.mount_rules.specs.Mount.{broken_maps}
use Rattle.jfs_redo.specs.mount_rules.specs.Subject.{subject_of}
use Rattle.jfs_held_maps.specs.mounted_places.specs.held.specs.survival.specs.halves.specs.Half.{Halves, low_in}
use Rattle.jfs_held_maps.specs.mounted_places.specs.held.specs.survival.specs.recovery.specs.Face.{Pages}
use Rattle.jfs_held_maps.specs.mounted_places.specs.held.specs.survival.specs.recovery.specs.objects.specs.Image.{volume_on}
use Rattle.jfs_held_maps.specs.mounted_places.specs.held.specs.survival.specs.recovery.specs.objects.specs.Objects.{objects}
use Rattle.jfs_held_maps.specs.mounted_places.specs.held.specs.survival.specs.recovery.specs.objects.specs.Owners.{is_data}
use Rattle.jfs_held_maps.specs.mounted_places.specs.held.specs.survival.specs.recovery.specs.kinds.specs.Images.{HasWholeFiles, IsSameVolume}
use Rattle.jfs_held_maps.specs.mounted_places.specs.held.specs.Held.{Mount, Held, IsHeld}
use Rattle.jfs_held_maps.specs.Maps.{KeepsMaps}
use Rattle.jfs_held_maps.specs.mounted_places.specs.Mounted.{SetsPast, mount_of}
use Rattle.jfs_held_maps.specs.mounted_places.specs.Places.{places_of}

-- ---- what a crash leaves

-- Of the log, at a moment while a group is written, whose last page has the number `high`, behind what stood in the ring before the mount; or while no page of it was written.
abbrev pub IsLogLeft : ℕ → Halves → Image → Type 0
IsLogLeft ring both log =
    ((front : List ℕ) × (high : ℕ) × (high ≡ (length front + (text_size both.log.items + text_size both.log.group) - 1) / 4080)
    × ReadsPrefix ring (stable_text ring front both.log) (group_text ring front both.log) (group_ends ring front both.log) high log)
    ⊎ ((last : Last) × (front ends : List ℕ) × (last.ring ≡ ring) × Holds last (stable_text last.ring front both.log) ends log)

-- An image of the whole disk: of the volume's part it has what a crash may leave, and behind it the volume's log, with a right superblock and its own label.
pub record HasCrashed (s : Super) (both : Halves) (old : Image) : Type 0 where
  pub low : Image
  pub crash : IsCrashImage (low_in both.volume) low
  pub same : (p : ℕ) → p < length low → page_of old p ≡ page_of low p
  pub log_is : IsLogOfHalves (s.logpxd.len - 2) (blocks_of s) both
  pub log : IsLogLeft (s.logpxd.len - 2) both (drop s.logpxd.addr old)
  pub log_super : HasSuper s.logpxd.len (drop s.logpxd.addr old)
  pub log_label : label_of (drop s.logpxd.addr old) ≡ own_label

-- ---- what redo makes of it

-- The superblock is as it was mounted. The log commits transactions, where its pages are of bytes; no rule of the maps is broken, the maps stand apart (so a redo that is stopped can be made again), and redo isn't refused.
-- However the log is read: a disk that is redone by its transactions has the volume after the first n entries, all that are durable among them.
pub record IsRedoneToVolume (s : Super) (m : Mount) (x : Held) (old : Image) : Type 0 where
  pub n : ℕ
  pub durable : x.both.log.durable ≤ n
  pub within : n ≤ length x.both.volume.history
  pub superblock : page_of old 8 ≡ x.core.mounted 8
  pub commits : ((p : ℕ) → AreBytes (page_of (drop s.logpxd.addr old) p)) → (txs : List (List Edit)) × AreCommitted s.logpxd.len (blocks_of s) (drop s.logpxd.addr old) txs
  pub unbroken : broken_maps (subject_of s (page_of old)) ≡ None
  pub apart : (txs : List (List Edit)) → AreCommitted s.logpxd.len (blocks_of s) (drop s.logpxd.addr old) txs → MapsStandApart s txs old
  pub answered : (new : Image) (why : RedoError) → RedoIs s old new (Err why) → IsRefusal why → ⊥
  pub redone : (txs : List (List Edit)) (new : Image) → AreCommitted s.logpxd.len (blocks_of s) (drop s.logpxd.addr old) txs → IsRedone s txs old new → ArePages (length new) new → length new ≡ length old
      → IsSameVolume m.readers (x.volumes n) (volume_on m.readers m.blocks m.table m.map (page_of new))
  -- No tree of the maps' files and of the bad blocks' breaks a rule there, and on the block map's last dmap the bits of blocks past the volume's end are set.
  pub files : (txs : List (List Edit)) (new : Image) → AreCommitted s.logpxd.len (blocks_of s) (drop s.logpxd.addr old) txs → IsRedone s txs old new → ArePages (length new) new → length new ≡ length old → HasWholeFiles m.readers (page_of new)
  pub past : (txs : List (List Edit)) (new : Image) → AreCommitted s.logpxd.len (blocks_of s) (drop s.logpxd.addr old) txs → IsRedone s txs old new → ArePages (length new) new → length new ≡ length old
      → SetsPast (places_of s (page_of new)) (page_of new)
  -- Redo writes no block that holds file data in the volume that it makes: at each moment of it, and once it is done, such a block is as the crash left it.
  pub file_data : (txs : List (List Edit)) (left : Image) → AreCommitted s.logpxd.len (blocks_of s) (drop s.logpxd.addr old) txs → IsPartlyRedone s txs old left ⊎ IsRedone s txs old left
      → (k b : ℕ) → 0 < is_data m.readers (objects m.readers (x.volumes n) k) b → page_of left b ≡ page_of old b

abbrev pub CrashedLaw : Type 0
CrashedLaw = (s : Super) (pages : Pages) (x : Held) (old : Image) → IsHeld (mount_of s pages) x → KeepsMaps (mount_of s pages) x → HasCrashed s x.both old → IsRedoneToVolume s (mount_of s pages) x old
