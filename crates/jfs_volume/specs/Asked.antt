-- A volume whose pages and maps are asked for something.
use Rattle.std.specs.Prelude.{◌≡◌, ◌⊎◌, ℕ, length}
use Rattle.jfs_disk.specs.declared.disk.Disk.{Ghosts}
use Rattle.jfs_bmap.specs.States.{Free, Reserved, state_of}
use Rattle.jfs_map_files.specs.declared.maps.Maps.{Maps}
use Rattle.jfs_pages.specs.declared.cache.PageCache.{PageCache}
use Rattle.jfs_pages.specs.Device.{IsSame}
use Rattle.jfs_pages.specs.Kept.{dirty_in, image_in}
use Rattle.jfs_halves.specs.Parts.{Parts}

-- the maps of a volume
abbrev pub maps_in : Parts → Maps
maps_in p = record { blocks = p.map; inodes = p.inodes; file_limit = p.limit }

-- Nothing of the maps changes but that free blocks are reserved.
pub record MayReserve (old new : Maps) : Type 0 where
  pub size : length new.blocks.states ≡ length old.blocks.states
  pub agsize : new.blocks.agsize ≡ old.blocks.agsize
  pub each : (b : ℕ) → (state_of new.blocks b ≡ state_of old.blocks b) ⊎ ((state_of old.blocks b ≡ Free) × (state_of new.blocks b ≡ Reserved))
  pub inodes : new.inodes ≡ old.inodes
  pub limit : new.file_limit ≡ old.file_limit

-- Nothing changes but the block map, by what is reserved, and the count of faults.
pub record IsAskedOf (tells crashes : Type 0) (old new : Parts) : Type 0 where
  pub parts : new ≡ record old { view = new.view; disk = new.disk; past = new.past; faults = new.faults; map = new.map }
  pub view : tells → new.view ≡ old.view
  pub disk : IsSame tells crashes old.disk new.disk old.past new.past

-- a cache that was read: its pages and what is dirty stay
pub record LeavesCache {D : Type 0} (d : Ghosts D) (old new : PageCache D d) : Type 0 where
  pub blocks : new.blocks ≡ old.blocks
  pub image : d.tells → image_in new.blocks (d.image new.disk) new.kept ≡ image_in old.blocks (d.image old.disk) old.kept
  pub dirty : dirty_in new.kept ≡ dirty_in old.kept
  pub count : d.page_count new.disk ≡ d.page_count old.disk
  pub room : d.room new.disk ≡ d.room old.disk
  pub disk : IsSame d.tells d.tells_crashes (d.image old.disk) (d.image new.disk) (d.past old.disk) (d.past new.disk)
