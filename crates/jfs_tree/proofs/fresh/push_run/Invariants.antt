use Rattle.std.proofs.Common.{◌≡◌, ◌++◌}
use Rattle.jfs_tree.specs.Fresh.{run_from}
use Rattle.jfs_tree.proofs.fresh.push_run.Given as goal

abbrev pub invariant-loop-k : goal.invariant-loop-k
invariant-loop-k l = l.all.items ≡ l.fn.all.items ++ run_from l.pxd.addr l.k
