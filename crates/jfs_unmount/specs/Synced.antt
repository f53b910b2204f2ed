-- What a syncpoint leaves of a volume's maps and their pages.
use Rattle.std.specs.Prelude.{◌≡◌, ◌<◌, ℕ, true, false, length, slice_get, Some, ⊤}
use Rattle.jfs_disk.specs.Image.{page_of}
use Rattle.jfs_super.specs.Rules.{blocks_of}
use Rattle.jfs_super.specs.declared.fields.Super.{Super}
use Rattle.jfs_shown.specs.bmap.specs.States.{is_owned}
use Rattle.jfs_shown.specs.meaning.specs.Readers.{readers}
use Rattle.jfs_shown.specs.meaning.specs.Consistent.{IsConsistent}
use Rattle.jfs_shown.specs.way.specs.Volume.{volume_of}
use Rattle.jfs_shown.specs.Files.{KnowsFiles}
use Rattle.jfs_volume_calls.specs.halves.specs.Parts.{Parts}
use Rattle.jfs_volume_calls.specs.volume.specs.MapsHome.{ShowsBlockMap, ShowsInodeMap, HoldsNone}
use Rattle.jfs_volume_calls.specs.volume.specs.Settles.{Settles, StaysShown, is_freed}
use Rattle.jfs_volume_calls.specs.Written.{LeavesMaps}

-- A map that had changed, and counts as written then, is shown by its pages in their canonical form, and the pages of one that hadn't stay; so do the fixed areas beside these pages. The blocks with owners stay, and the inode map; and the maps' files lie where they did.
pub record LeavesMapsHome (area : ℕ → ℕ) (old new : Parts) : Type 0 where
  pub block_places : new.files.blocks.places ≡ old.files.blocks.places
  pub inode_places : new.files.inodes.places ≡ old.files.inodes.places
  pub inodes : new.inodes ≡ old.inodes
  pub number : length new.map.states ≡ length old.map.states
  pub owned : (b : ℕ) → is_owned new.map b ≡ is_owned old.map b
  pub block_map : old.files.blocks.stale ≡ true → new.files.blocks.stale ≡ false → ShowsBlockMap new
  pub inode_map : old.files.inodes.stale ≡ true → new.files.inodes.stale ≡ false → ShowsInodeMap new
  pub block_pages : old.files.blocks.stale ≡ false → (n b : ℕ) → slice_get old.files.blocks.places n ≡ Some b → page_of new.view b ≡ page_of old.view b
  pub inode_pages : old.files.inodes.stale ≡ false → (n b : ℕ) → slice_get old.files.inodes.places n ≡ Some b → page_of new.view b ≡ page_of old.view b
  pub areas : (b : ℕ) → 0 < area b → HoldsNone old.files b → page_of new.view b ≡ page_of old.view b

-- no page of a fixed area was freed by an entry
abbrev pub NoneFreed : (ℕ → ℕ) → Parts → Type 0
NoneFreed area p = (b : ℕ) → 0 < area b → is_freed p.freed b ≡ false

-- Where all was known of the maps' files it is behind a syncpoint, also behind one that failed.
abbrev pub StillKnownLaw : Type 0
StillKnownLaw = (s : Super) (area : ℕ → ℕ) (old new : Parts) → KnowsFiles s (page_of old.view) area old.map old.inodes old.files → IsConsistent (readers (blocks_of s)) (volume_of (page_of old.view) area old.map old.inodes)
    → NoneFreed area old → Settles old new → StaysShown ⊤ old new → LeavesMaps old new → KnowsFiles s (page_of new.view) area new.map new.inodes new.files
