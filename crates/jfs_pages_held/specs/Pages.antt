-- Which pages of a held volume are dirty, and how far the pages of its maps are behind memory.
use Rattle.std.specs.Prelude.{◌≡◌, ◌⊎◌, ◌≤◌, ◌+◌, ℕ, true, false, length, slice_get, is_some, IsSome, Some, None}
use Rattle.jfs_joined_held.specs.held.specs.survival.specs.face.specs.Items.{extent_by}
use Rattle.jfs_joined_held.specs.held.specs.survival.specs.face.specs.Places.{Places, is_block_page, is_inode_page}
use Rattle.jfs_joined_held.specs.held.specs.survival.specs.face.specs.Volume.{items_on}
use Rattle.jfs_joined_held.specs.held.specs.survival.specs.logged.specs.Logged.{logged_in}
use Rattle.jfs_joined_held.specs.held.specs.survival.specs.recovery.specs.Core.{Core, count, image}
use Rattle.jfs_joined_held.specs.held.specs.survival.specs.recovery.specs.Face.{Pages}
use Rattle.jfs_joined_held.specs.held.specs.Changes.{IsFileData}
use Rattle.jfs_joined_held.specs.held.specs.Held.{Mount}
use Rattle.jfs_joined_held.specs.Held.{volume_at}
use Rattle.jfs_joined_held.specs.volume.specs.bmap.specs.MapFile.{is_in_use}
use Rattle.jfs_joined_held.specs.volume.specs.data_steps.specs.objects.specs.Readers.{Readers}
use Rattle.jfs_joined_held.specs.volume.specs.data_steps.specs.objects.specs.Volume.{Volume}
use Rattle.jfs_joined_held.specs.volume.specs.halves.specs.Half.{VolumeHalf, Halves, block_in}
use Rattle.jfs_joined_held.specs.volume.specs.halves.specs.Parts.{Parts}
use Rattle.jfs_joined_held.specs.volume.specs.map_files.specs.imap.specs.Inodes.{Inodes, extent_at}

-- ---- dirty pages

-- A dirty page is one that the log keeps safe, or data of a regular file, or its block isn't in use: so none is of attributes or of a long link's target.
abbrev pub MayBeDirty : Readers → Volume → ℕ → Type 0
MayBeDirty r v q = (logged_in r v q ≡ true) ⊎ IsFileData r v q ⊎ (v.used q ≡ false)

abbrev pub HasHomes : Readers → VolumeHalf → Volume → Type 0
HasHomes r half v = (q : ℕ) → IsSome (block_in half q).dirty → MayBeDirty r v q

-- ---- pages of the maps

-- The maps in memory have the sizes that the mount found, and each page of their files that is in use has its place.
pub record MapsStand (pl : Places) (p : Parts) : Type 0 where
  pub agsize : p.map.agsize ≡ pl.agsize
  pub iags : p.inodes.iags ≡ pl.iags
  pub groups : p.inodes.numag ≡ pl.numag
  pub group_size : p.inodes.agsize ≡ pl.agsize
  pub block_map : (k : ℕ) → is_in_use pl.blocks k ≡ true → slice_get p.files.blocks.places k ≡ Some (pl.block_map k)
  pub inode_map : (k : ℕ) → k ≤ pl.iags → slice_get p.files.inodes.places k ≡ Some (pl.inode_map k)
  pub inode_pages : length p.files.inodes.places ≡ pl.iags + 1

-- The inode extents that an image tells of are those of the inode map in memory, each with its length.
abbrev pub HasExtents : Places → Pages → Inodes → Type 0
HasExtents pl s inodes = (e : ℕ) → extent_by (items_on pl s) e ≡ extent_at inodes e

-- While the volume runs, a page of a map is dirty in the core exactly where that map has changed since its pages were written.
pub record MapsMarked (pl : Places) (core : Core) (p : Parts) : Type 0 where
  pub block_map : p.halted ≡ None → (q : ℕ) → is_block_page pl q ≡ true → is_some (core.slots q).block.dirty ≡ p.files.blocks.stale
  pub inode_map : p.halted ≡ None → (q : ℕ) → is_inode_page pl q ≡ true → is_some (core.slots q).block.dirty ≡ p.files.inodes.stale

-- ---- both

pub record PagesKept (m : Mount) (area : ℕ → ℕ) (p : Parts) (both : Halves) (core : Core) : Type 0 where
  pub homes : HasHomes m.readers both.volume (volume_at area p)
  pub stand : MapsStand m.places p
  pub extents : HasExtents m.places (image core (count core)) p.inodes
  pub marked : MapsMarked m.places core p
