use Rattle.std.proofs.Common.{◌≡◌, length}
use Rattle.jfs_bmap.specs.Set.{taken_at}
use Rattle.jfs_bmap.specs.Freed.{is_due}
use Rattle.jfs_bmap.proofs.Settling.{AreFreed}
use Rattle.jfs_bmap.proofs.settle.free_blocks.Given as goal

abbrev pub invariant-loop-i : goal.invariant-loop-i
invariant-loop-i l = record {
  blocks : length l.used ≡ length l.initial.used;
  freed : AreFreed (taken_at l.initial.used) (is_due l.held l.entries l.told) l.first l.i l.used;
}
