use Rattle.std.proofs.Common.{ℕ}
use Rattle.jfs_dmapctl.specs.Control.{value_at, IsValue}
use Rattle.jfs_map_rows.proofs.slow_pages.are_canonical.Given as goal

abbrev pub invariant-loop-k : goal.invariant-loop-k
invariant-loop-k l = (v : ℕ) → IsValue 0 (value_at l.leaves v)
