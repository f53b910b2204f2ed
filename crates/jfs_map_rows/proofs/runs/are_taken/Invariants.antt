use Rattle.std.proofs.Common.{◌≡◌}
use Rattle.jfs_dmap.specs.Dmap.{blocks_of, IsDmap}
use Rattle.jfs_map_rows.proofs.runs.are_taken.Given as goal

abbrev pub invariant-loop-run : goal.invariant-loop-run
invariant-loop-run l = record {
  canonical : IsDmap l.page.0;
  blocks : blocks_of l.page.0 ≡ blocks_of l.fn.page.0;
}
