-- A volume that a crash left while it was mounted, and its own log.
use Rattle.std.specs.Prelude.{◌≡◌, ◌<◌, ◌≤◌, ℕ, Bool, true, false, List}
use Rattle.jfs_disk.specs.Image.{Image, page_of}
use Rattle.jfs_ranges.specs.declared.edit.Edit.{Edit}
use Rattle.jfs_ranges.specs.Apply.{touches_tx}
use Rattle.jfs_super.specs.Rules.{blocks_of}
use Rattle.jfs_super.specs.declared.fields.Super.{Super}
use Rattle.jfs_recovery.specs.Face.{Face, Pages}
use Rattle.jfs_recovery.specs.Core.{Core, count, entry, image}
use Rattle.jfs_recovery.specs.Sound.{IsSound, IsLeft, IsLogImage, window}
use Rattle.jfs_face.specs.Places.{Places, is_map_page}
use Rattle.jfs_face.specs.Volume.{face_of}
use Rattle.jfs_face.specs.Recovered.{IsVolumeAt}
use Rattle.jfs_redo.specs.mount_rules.specs.Mount.{iags}
use Rattle.jfs_redo.specs.mount_rules.specs.Subject.{subject_of}
use Rattle.jfs_redo.specs.mount_rules.specs.meaning.specs.Readers.{readers}
use Rattle.jfs_redo.specs.Apart.{AreNamedOnce, KeepsOffMaps}

-- pages are a volume of this superblock, whose maps agree and stand at these places
abbrev pub IsVolumeOf : Super → ℕ → Places → Pages → Type 0
IsVolumeOf s numag pl page = IsVolumeAt (readers (blocks_of s)) (blocks_of s) s.agsize numag s.ait2 s.aim2 pl page

-- what it shows to the core of log redo
abbrev pub face_on : Super → Places → (Pages → List Edit → ℕ → Bool) → Face
face_on s pl changes = face_of (readers (blocks_of s)) pl changes

-- no entry has a line of a page of the maps
abbrev pub LogsNoMaps : Places → Core → Type 0
LogsNoMaps pl core = (k p : ℕ) → is_map_page pl p ≡ true → touches_tx p (entry core k) ≡ false

-- A crash left these bytes on the volume's pages, whose log has the entries from c on before n.
pub record HasCrashed (s : Super) (core : Core) (c n : ℕ) (left : Pages) (low : Image) : Type 0 where
  pub pages : IsLeft core left
  pub same : (p : ℕ) → p < blocks_of s → page_of low p ≡ left p
  pub log : IsLogImage core c n

-- what it leaves names each block of the maps' files once, and the log keeps off these
pub record KeepsApart (s : Super) (txs : List (List Edit)) (low : Image) : Type 0 where
  pub once : AreNamedOnce s txs low
  pub off : KeepsOffMaps s txs low

-- After each entry the volume's maps agree, and stand where they were mounted; no entry has lines of them. So it is for whatever a crash leaves, where the inode map's control page tells as many pages as it has.
abbrev pub OwnLogLaw : Type 0
OwnLogLaw = (s : Super) (numag : ℕ) (pl : Places) (changes : Pages → List Edit → ℕ → Bool) (core : Core) (c n : ℕ) (left : Pages) (low : Image)
    → IsSound (face_on s pl changes) core → ((k : ℕ) → k ≤ count core → IsVolumeOf s numag pl (image core k)) → LogsNoMaps pl core
    → HasCrashed s core c n left low → iags (subject_of s (page_of low)) ≡ pl.iags → KeepsApart s (window core c n) low
