use Rattle.std.proofs.Common.{◌≤◌}
use Rattle.jfs_bench.proofs.inodes.take_often.Given as goal

abbrev pub invariant-loop-round : goal.invariant-loop-round
invariant-loop-round l = l.found ≤ l._round
