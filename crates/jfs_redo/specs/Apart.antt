-- Why the maps of a volume stand apart, and why redo leaves file data.
use Rattle.std.specs.Prelude.{◌≡◌, ◌⊎◌, ◌<◌, ◌≤◌, ◌+◌, false, ℕ, List, length, drop, None}
use Rattle.jfs_disk.specs.Image.{Image, page_of, ArePages}
use Rattle.jfs_ranges.specs.declared.edit.Edit.{Edit}
use Rattle.jfs_ranges.specs.Apply.{touches_tx}
use Rattle.jfs_records.specs.Redo.{all_of, chosen}
use Rattle.jfs_super.specs.Rules.{IsAccepted, blocks_of}
use Rattle.jfs_super.specs.declared.fields.Super.{Super}
use Rattle.jfs_redo_steps.specs.objects.specs.Image.{file_has}
use Rattle.jfs_redo_steps.specs.objects.specs.Objects.{objects}
use Rattle.jfs_redo_steps.specs.objects.specs.Owners.{extents_have, is_data, Agrees}
use Rattle.jfs_mount_maps.specs.mount_rules.specs.Subject.{Subject, subject_of, volume}
use Rattle.jfs_mount_maps.specs.mount_rules.specs.Mount.{broken_maps}
use Rattle.jfs_redo.specs.Log.{AreCommitted}
use Rattle.jfs_redo_steps.specs.Pages.{redone_page}
use Rattle.jfs_redo.specs.Redo.{IsMapPlace, IsRedone}
use Rattle.jfs_redo.specs.Partly.{extents_then, IsPartlyRedone, MapsStandApart}

-- how often the files of both maps have a block: as a page of a map, or of the tree that says where these are
abbrev pub map_files_have : Subject → ℕ → ℕ
map_files_have s b = file_has s.readers s.page 2 b + file_has s.readers s.page 16 b

-- The log keeps off these files: it has no line of a page of the maps, and redo leaves each block that they have.
pub record KeepsOffMaps (s : Super) (txs : List (List Edit)) (old : Image) : Type 0 where
  pub maps : (b : ℕ) → IsMapPlace (subject_of s (page_of old)) b → touches_tx b (all_of txs) ≡ false
  pub files : (b : ℕ) → 0 < map_files_have (subject_of s (page_of old)) b → redone_page (blocks_of s) (all_of txs) old b ≡ page_of old b

-- The fixed areas name each of their blocks once, and no inode extent, nor one of the log's, has a page of the maps.
pub record AreNamedOnce (s : Super) (txs : List (List Edit)) (old : Image) : Type 0 where
  pub areas : (b : ℕ) → 0 < map_files_have (subject_of s (page_of old)) b → (volume (subject_of s (page_of old))).area b ≤ 1
  pub extents : (b : ℕ) → IsMapPlace (subject_of s (page_of old)) b → extents_have (extents_then s txs old) b ≡ 0

-- So the maps stand apart, where no rule on them is broken.
abbrev pub StandApart : Type 0
StandApart = (s : Super) (txs : List (List Edit)) (old : Image) → broken_maps (subject_of s (page_of old)) ≡ None → AreNamedOnce s txs old → KeepsOffMaps s txs old → MapsStandApart s txs old

-- A volume whose maps agree names each block once.
abbrev pub NameOnce : Type 0
NameOnce = (s : Super) (txs : List (List Edit)) (old : Image) → Agrees (subject_of s (page_of old)).readers (volume (subject_of s (page_of old))) → KeepsOffMaps s txs old → AreNamedOnce s txs old

-- Of the redone volume, if its maps agree, a block that holds data of an object is as it was at each moment of redo, where no line of the log counts for some of its bytes.
abbrev pub DataStays : Type 0
DataStays = (s : Super) (txs : List (List Edit)) (old new left : Image) → ArePages (length old) old → IsAccepted s (length old) → AreCommitted s.logpxd.len (blocks_of s) (drop s.logpxd.addr old) txs
    → broken_maps (subject_of s (page_of old)) ≡ None → AreNamedOnce s txs old → KeepsOffMaps s txs old
    → IsRedone s txs old new → Agrees (subject_of s (page_of new)).readers (volume (subject_of s (page_of new))) → IsPartlyRedone s txs old left ⊎ IsRedone s txs old left
    → (n b : ℕ) → 0 < is_data (subject_of s (page_of new)).readers (objects (subject_of s (page_of new)).readers (volume (subject_of s (page_of new))) n) b → ((i : ℕ) → chosen b i (all_of txs) ≡ None)
    → page_of left b ≡ page_of old b
