use Rattle.std.proofs.Common.{◌≡◌, ◌+◌, ◌-◌, ◌++◌}
use Rattle.jfs_write_pages.specs.Spots.{run_spots}
use Rattle.jfs_write_pages.proofs.spot.push_run.Given as goal

abbrev pub invariant-loop-i : goal.invariant-loop-i
invariant-loop-i l = l.spots.items ++ run_spots (l.index + l.i) (l.block + l.i) (l.count - l.i) ≡ l.fn.spots.items ++ run_spots l.index l.block l.count
