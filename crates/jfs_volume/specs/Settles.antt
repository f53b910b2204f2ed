-- What stays where entries are acknowledged, and where pages go home.
use Rattle.std.specs.Prelude.{◌≡◌, ◌⊎◌, ◌==◌, ◌||◌, ℕ, Bool, false, List, [], ◌∷◌, Option, Result, Ok, Err}
use Rattle.jfs_disk.specs.Image.{page_of}
use Rattle.jfs_disk.specs.declared.disk.Fault.{Fault}
use Rattle.jfs_halves.specs.crash_core.specs.Step.{halted_by}
use Rattle.jfs_bmap.specs.States.{blocks_settled}
use Rattle.jfs_pages.specs.declared.error.HomeError.{HomeError}
use Rattle.jfs_pages.specs.declared.error.HomeError.TheVariants.{NotYet, WriteFault}
use Rattle.jfs_halves.specs.declared.freed.FreedPage.{FreedPage}
use Rattle.jfs_halves.specs.Parts.{Parts}
use Rattle.jfs_volume.specs.MapsHome.{HoldsNone}
use Rattle.jfs_volume.specs.Told.{still_freed}

-- page q was freed by an entry
abbrev pub is_freed : List FreedPage → ℕ → Bool
is_freed [] q = false
is_freed (f ∷ fs) q = f.page == q || is_freed fs q

-- the first n entries are acknowledged: blocks that they freed aren't busy any more
pub record SettlesTo (n : ℕ) (old new : Parts) : Type 0 where
  pub map : new.map ≡ blocks_settled n old.map
  pub freed : new.freed ≡ still_freed n old.freed

pub record KeepsMap (old new : Parts) : Type 0 where
  pub map : new.map ≡ old.map
  pub freed : new.freed ≡ old.freed

-- The volume's entries, its inodes and its block map stay, but for busy blocks.
pub record Settles (old new : Parts) : Type 0 where
  pub entries : new.entries ≡ old.entries
  pub appended : new.appended ≡ old.appended
  pub inodes : new.inodes ≡ old.inodes
  pub limit : new.limit ≡ old.limit
  pub blocks : new.blocks ≡ old.blocks
  pub count : new.count ≡ old.count
  pub room : new.room ≡ old.room
  pub map : KeepsMap old new ⊎ ((n : ℕ) × SettlesTo n old new)

-- Pages stay but for those that entries freed, and those of the maps, which stay where they are.
pub record StaysShown (tells : Type 0) (old new : Parts) : Type 0 where
  pub block_places : new.files.blocks.places ≡ old.files.blocks.places
  pub inode_places : new.files.inodes.places ≡ old.files.inodes.places
  pub view : tells → (q : ℕ) → is_freed old.freed q ≡ false → HoldsNone old.files q → page_of new.view q ≡ page_of old.view q

-- pages go home, or the low part is synced: what is shown stays
pub record HomesAlone (tells : Type 0) (old new : Parts) : Type 0 where
  pub parts : new ≡ record old { view = new.view; dirty = new.dirty; disk = new.disk; past = new.past; faults = new.faults; halted = new.halted }
  pub view : tells → new.view ≡ old.view

-- a call that fails halts the volume, which keeps its first fault
abbrev pub HaltsAt : Option Fault → Option Fault → Result (Unit {0}) Fault → Type 0
HaltsAt old new (Ok done) = new ≡ old
HaltsAt old new (Err fault) = new ≡ halted_by fault old

abbrev pub HomeHalts : Option Fault → Option Fault → Result (Unit {0}) HomeError → Type 0
HomeHalts old new (Ok done) = new ≡ old
HomeHalts old new (Err (NotYet lsn told)) = new ≡ old
HomeHalts old new (Err (WriteFault fault)) = new ≡ halted_by fault old
