use Rattle.std.proofs.Common.{◌≤◌, ◌+◌}
use Rattle.jfs_bench.proofs.map.release_each.Given as goal

abbrev pub invariant-loop-i : goal.invariant-loop-i
invariant-loop-i l = l.runs ≤ l.map.spare + l.i
