use Rattle.std.proofs.Common.{◌≡◌, ◌<◌, ◌+◌, ℕ, length}
use Rattle.jfs_link.specs.objects.specs.Volume.{slot_of}
use Rattle.jfs_create.specs.Extent.{free_inode}
use Rattle.jfs_create.proofs.extent.free_page.Given as goal

abbrev pub invariant-loop-slot : goal.invariant-loop-slot
invariant-loop-slot l = record {
  size : length l.page.0 ≡ 4096;
  slots : (k : ℕ) → k < l.slot → slot_of l.page.0 k ≡ free_inode l.extent (l.extent.first + l.from + k);
}
