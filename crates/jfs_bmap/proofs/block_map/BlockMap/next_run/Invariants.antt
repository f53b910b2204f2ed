use Rattle.std.proofs.Common.{◌<◌, ◌+◌, ◌*◌, ◌^◌, ℕ}
use Rattle.std.specs.Prelude.{None}
use Rattle.jfs_bmap.specs.Set.{taken_at, IsLowest}
use Rattle.jfs_bmap.proofs.block_map.BlockMap.next_run.Given as goal

abbrev pub invariant-loop-below : goal.invariant-loop-below
invariant-loop-below l = (k : ℕ) → l.greatest < k + l.below → 2 ^ k < 2 * l.left → IsLowest (taken_at l.used) k None
