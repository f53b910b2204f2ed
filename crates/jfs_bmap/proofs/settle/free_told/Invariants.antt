use Rattle.std.proofs.Common.{◌≡◌, ◌≤◌, ◌&&◌, not, ℕ, length}
use Rattle.std.specs.BinaryHeap.{heap_items, heap_len, heap_capacity}
use Rattle.jfs_bmap.specs.Set.{taken_at}
use Rattle.jfs_bmap.specs.Freed.{is_due}
use Rattle.jfs_bmap.specs.Kept.{ArePending}
use Rattle.jfs_bmap.proofs.settle.free_told.Given as goal

abbrev pub invariant-loop-run : goal.invariant-loop-run
invariant-loop-run l = record {
  blocks : length l.used ≡ length l.initial.used;
  pending : ArePending l.held l.used l.entries (heap_items l.freed);
  used : (b : ℕ) → (taken_at l.used b && not (is_due l.held l.entries l.told b)) ≡ (taken_at l.initial.used b && not (is_due l.held l.entries l.told b));
  fewer : heap_len l.freed ≤ heap_len l.initial.freed;
  capacity : heap_capacity l.freed ≡ heap_capacity l.initial.freed;
}

abbrev pub decreases-loop-run : goal.decreases-loop-run
decreases-loop-run l = heap_len l.freed
