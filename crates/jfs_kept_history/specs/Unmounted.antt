-- A volume that is kept, once it is unmounted.
use Rattle.std.specs.Prelude.{◌≡◌, ◌<◌, ℕ, List}
use Rattle.jfs_disk.specs.Image.{page_of}
use Rattle.jfs_super.specs.Rules.{blocks_of}
use Rattle.jfs_super.specs.declared.fields.Super.{Super}
use Rattle.jfs_legal.specs.served.specs.halves.specs.Parts.{Parts}
use Rattle.jfs_legal.specs.served.specs.Holds.{volume_at}
use Rattle.jfs_legal.specs.served.specs.shown.specs.Files.{KnowsFiles}
use Rattle.jfs_legal.specs.served.specs.shown.specs.meaning.specs.Consistent.{IsConsistent}
use Rattle.jfs_legal.specs.served.specs.shown.specs.meaning.specs.Image as meaning
use Rattle.jfs_legal.specs.served.specs.shown.specs.meaning.specs.Readers.{readers}
use Rattle.jfs_legal.specs.served.specs.unmount.specs.Unmount.{IsAllHome}
use Rattle.jfs_mounted_maps.specs.Keepable.{IsKeepable}
use Rattle.jfs_kept_history.specs.Kept.{Lasting, IsKeptSince}

-- All is known of the maps' files of a consistent volume, and all its pages are home.
pub record IsHomeVolume (s : Super) (area : ℕ → ℕ) (p : Parts) : Type 0 where
  pub files : KnowsFiles s (page_of p.view) area p.map p.inodes p.files
  pub consistent : IsConsistent (readers (blocks_of s)) (volume_at area p)
  pub home : IsAllHome p

-- All pages that a volume shows, and that its part of the disk has, but for the superblock's.
pub record HasPagesOf (p : Parts) (left : ℕ → List ℕ) : Type 0 where
  pub pages : (b : ℕ) → (b ≡ 8 → ⊥) → b < p.blocks → left b ≡ page_of p.view b
  pub disk : (b : ℕ) → (b ≡ 8 → ⊥) → b < p.blocks → left b ≡ page_of p.disk b

-- An image with the pages of such a volume is keepable, if it is consistent.
abbrev pub LeavesKeepable : Super → (ℕ → List ℕ) → Parts → Type 0
LeavesKeepable s page p = (left : ℕ → List ℕ) → IsHomeVolume s (meaning.volume_of s page).area p → HasPagesOf p left → meaning.IsConsistentImage s left → IsKeepable s left

-- So it is of a volume that is kept.
abbrev pub UnmountedAgainLaw : Type 0
UnmountedAgainLaw = (s : Super) (page : ℕ → List ℕ) (start : Parts) (list : List Lasting) (points : List ℕ) (p : Parts) → IsKeptSince s page start list points p → LeavesKeepable s page p
