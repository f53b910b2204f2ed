-- What a commit and a syncpoint leave of the maps' files and of the pages that are shown.
use Rattle.std.specs.Prelude.{◌≡◌, ℕ, true, false, slice_get, Some}
use Rattle.jfs_disk.specs.Image.{page_of}
use Rattle.jfs_volume.specs.halves.specs.Parts.{Parts}
use Rattle.jfs_volume.specs.MapsHome.{AreApart, ShowsBlockMap, ShowsInodeMap, with_written}
use Rattle.jfs_volume.specs.Settles.{is_freed}

-- The maps' files stay, and so do all pages but those that entries freed.
pub record KeepsPages (tells : Type 0) (old new : Parts) : Type 0 where
  pub files : new.files ≡ old.files
  pub view : tells → (q : ℕ) → is_freed old.freed q ≡ false → page_of new.view q ≡ page_of old.view q

-- A map that had changed, and counts as written then, is shown in its canonical form, and the pages of one that hadn't stay. Where a write failed, a map whose pages weren't all written counts as changed still.
pub record LeavesMaps (old new : Parts) : Type 0 where
  pub block_map : AreApart old.files → old.files.blocks.stale ≡ true → new.files.blocks.stale ≡ false → ShowsBlockMap new
  pub inode_map : AreApart old.files → old.files.inodes.stale ≡ true → new.files.inodes.stale ≡ false → ShowsInodeMap new
  pub block_pages : AreApart old.files → old.files.blocks.stale ≡ false → (n b : ℕ) → slice_get old.files.blocks.places n ≡ Some b → is_freed old.freed b ≡ false → page_of new.view b ≡ page_of old.view b
  pub inode_pages : AreApart old.files → old.files.inodes.stale ≡ false → (n b : ℕ) → slice_get old.files.inodes.places n ≡ Some b → is_freed old.freed b ≡ false → page_of new.view b ≡ page_of old.view b

-- Each map counts as written.
pub record WritesMaps (old new : Parts) : Type 0 where
  pub files : new.files ≡ with_written old.files
  pub leaves : LeavesMaps old new
