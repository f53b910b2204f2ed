-- What the redo of a volume on a disk leaves is what the core of log redo makes of it.
use Rattle.std.specs.Prelude.{◌≡◌, ◌<◌, ◌≤◌, ◌+◌, ◌-◌, ◌/◌, ℕ, true, List, Bool, length, Some}
use Rattle.jfs_bits.specs.declared.descriptor.Pxd.{Pxd}
use Rattle.jfs_disk.specs.Image.{Image, page_of, ArePages}
use Rattle.jfs_ranges.specs.declared.edit.Edit.{Edit}
use Rattle.jfs_super.specs.Rules.{blocks_of}
use Rattle.jfs_super.specs.declared.fields.Super.{Super}
use Rattle.jfs_recovery.specs.objects.specs.Owners.{IsSound}
use Rattle.jfs_recovery.specs.objects.specs.Readers.{Readers}
use Rattle.jfs_recovery.specs.objects.specs.Volume.{home}
use Rattle.jfs_recovery.specs.objects.specs.Image.{extent_place, volume_on}
use Rattle.jfs_recovery.specs.kinds.specs.Images.{HasWholeFiles, IsSameVolume}
use Rattle.jfs_recovery.specs.Face.{Pages, IsRedone as IsRedoneOf}
use Rattle.jfs_face.specs.Places.{Places, is_map_page}
use Rattle.jfs_face.specs.Items.{AreItems, extent_by, places}
use Rattle.jfs_face.specs.Mounted.{places_on, HasMapPages}
use Rattle.jfs_face.specs.Redo.{items_redone}
use Rattle.jfs_face.specs.Volume.{face_of}
use Rattle.jfs_redo.specs.mount_rules.specs.meaning.specs.Readers.{readers}
use Rattle.jfs_redo.specs.Partly.{MapsStandApart, extents_then}
use Rattle.jfs_redo.specs.Redo.{IsRedone}
use Rattle.jfs_mount_maps.specs.sets.specs.Sets.{extent_from}

-- the places of the maps, as redo finds them on a volume
abbrev pub found_places : Super → Image → Places
found_places s old = places_on (readers (blocks_of s)) (blocks_of s) s.agsize ((blocks_of s + s.agsize - 1) / s.agsize) s.ait2 s.aim2 (page_of old)

-- The maps' files are whole, and stand apart within the volume. What the maps keep after the transactions is of its kind: no block past the end is in use, and an inode extent that is there has four blocks of the volume.
pub record CanBeRedone (s : Super) (txs : List (List Edit)) (old : Image) : Type 0 where
  pub pages : HasMapPages (readers (blocks_of s)) (blocks_of s) (page_of old)
  pub apart : MapsStandApart s txs old
  pub within : (p : ℕ) → is_map_page (found_places s old) p ≡ true → p < blocks_of s
  pub items : AreItems (found_places s old) (items_redone (found_places s old) (page_of old) txs)
  pub extents : (e : ℕ) → e < places (found_places s old) → let extent = extent_by (items_redone (found_places s old) (page_of old) txs) e in extent ≡ extent_from (extent_place extent)
  pub homes : (n p : ℕ) → home (extents_then s txs old) n ≡ Some p → p < blocks_of s

-- Pages that are what the core makes of what a crash left; of the volume's, all but the superblock's are those of the image that redo left.
pub record IsRedoneByCore (s : Super) (txs : List (List Edit)) (old new : Image) (changes : Pages → List Edit → ℕ → Bool) (left : Pages) : Type 0 where
  pub made : Pages
  pub redone : IsRedoneOf (face_of (readers (blocks_of s)) (found_places s old) changes) left txs made
  pub same : (p : ℕ) → p < blocks_of s → (p ≡ 8 → ⊥) → page_of new p ≡ made p

abbrev pub RedoneLaw : Type 0
RedoneLaw = (s : Super) (txs : List (List Edit)) (old new : Image) (changes : Pages → List Edit → ℕ → Bool) (left : Pages) → blocks_of s ≤ length new → ArePages (length new) new → CanBeRedone s txs old → IsRedone s txs old new
    → ((p : ℕ) → p < blocks_of s → left p ≡ page_of old p) → IsRedoneByCore s txs old new changes left

-- The pages within a volume but for the superblock's say which volume it is.
abbrev pub SuperblockLaw : Type 0
SuperblockLaw = (r : Readers) (blocks : ℕ) (table map : Pxd) (old new : Pages) → IsSound r (volume_on r blocks table map old) → HasWholeFiles r old → ((p : ℕ) → p < blocks → (p ≡ 8 → ⊥) → new p ≡ old p)
    → IsSameVolume r (volume_on r blocks table map old) (volume_on r blocks table map new)
