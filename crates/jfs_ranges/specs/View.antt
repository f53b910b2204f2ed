-- A view of pages, after it lent one.
use Rattle.std.specs.Prelude.{◌≡◌, ◌<◌, ℕ, List, [], Result, Ok, Err, length}
use Rattle.jfs_bits.specs.Count.{Rose}
use Rattle.jfs_disk.specs.Image.{Image, page_of}
use Rattle.jfs_disk.specs.Crash.{DiskState}
use Rattle.jfs_disk.specs.declared.disk.Disk.{Ghosts}
use Rattle.jfs_disk.specs.declared.disk.Fault.{Fault}
use Rattle.jfs_ranges.specs.declared.view.ViewError.{ViewError}
use Rattle.jfs_ranges.specs.declared.view.ViewError.TheVariants.{Read, Memory}

-- the faults of a device are told by its part of a disk and by how often a call of it failed; a failed call raises that number
abbrev pub Failed : Fault → Fault → Type 0
Failed before now = Rose before.count now.count × (now.part ≡ before.part)

-- the count of faults rises only with a fault, which carries the part and the count that it raised
abbrev pub CarriesCount : {T : Type 0} → Fault → Fault → Result T ViewError → Type 0
CarriesCount before now (Ok page) = now ≡ before
CarriesCount before now (Err (Read fault)) = Failed before now × (fault ≡ now)
CarriesCount before now (Err Memory) = now ≡ before

-- a page that a view holds in memory alone: the first and the last entry that changed it since it went home
pub record Pending : Type 0 where
  pub page : ℕ
  pub first : ℕ
  pub last : ℕ

-- what a view's device has beside what the view shows of it: its number of pages, how many it may have at the most, the pages that are to go home and, where it tells what a crash may
-- leave, the states that it has had
pub record Device (crashes : Type 0) : Type 0 where
  pub pages : ℕ
  pub room : ℕ
  pub pending : List Pending
  pub states : crashes → List DiskState

-- a disk as the device of a view
abbrev pub device_of : {D : Type 0} → (d : Ghosts D) → D → Device d.tells_crashes
device_of d disk = record { pages = d.page_count disk; room = d.room disk; pending = []; states = λ told. d.past disk }

-- a view's device that is nothing but the pages that it shows
abbrev pub no_device : {crashes : Type 0} → Device crashes
no_device = record { pages = 0; room = 0; pending = []; states = λ told. [] }

-- a page was lent, or wasn't: the number of blocks, the pages and the device stay
pub record IsLent {T crashes : Type 0} (tells : Type 0) (blocks blocks_after : ℕ) (image image_after : Image) (device device_after : Device crashes)
    (before now : Fault) (result : Result T ViewError) : Type 0 where
  pub same_blocks : blocks_after ≡ blocks
  pub same_image : tells → image_after ≡ image
  pub same_device : device_after ≡ device
  pub count : CarriesCount before now result

-- each page has 4,096 bytes
abbrev pub AreWhole : ℕ → Image → Type 0
AreWhole blocks image = (n : ℕ) → n < blocks → length (page_of image n) ≡ 4096
