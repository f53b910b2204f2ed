use Rattle.std.proofs.Common.{◌≡◌, ◌++◌, drop}
use Rattle.jfs_write.specs.Tree.{run_allocs}
use Rattle.jfs_write.proofs.tree.take_runs.Given as goal

abbrev pub invariant-loop-run : goal.invariant-loop-run
invariant-loop-run l = l.tx ++ run_allocs (drop l.run-index l.runs) ≡ l.fn.tx ++ run_allocs l.runs
