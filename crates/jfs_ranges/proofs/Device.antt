-- Devices of views that are the same.
use Rattle.std.specs.Prelude.{◌≡◌, []}
use Rattle.jfs_disk.specs.declared.disk.Disk.{Ghosts}
use Rattle.jfs_ranges.specs.View.{device_of}

-- the disk has as many pages, and the same states where it tells them
pub same_device : {D : Type 0} (d : Ghosts D) (old new : D) → d.page_count new ≡ d.page_count old → d.room new ≡ d.room old → (d.tells_crashes → d.past new ≡ d.past old) → device_of d new ≡ device_of d old
same_device d old new pages room states = λ i. record { pages = pages i; room = room i; pending = []; states = λ told. states told i }
