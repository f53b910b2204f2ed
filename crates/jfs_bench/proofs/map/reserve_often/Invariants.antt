use Rattle.std.proofs.Common.{◌≤◌}
use Rattle.jfs_bench.proofs.map.reserve_often.Given as goal

abbrev pub invariant-loop-call : goal.invariant-loop-call
invariant-loop-call l = l.reserved ≤ l._call
