use Rattle.std.proofs.Common.{◌≡◌, ◌++◌, take}
use Rattle.jfs_xtree.specs.Cutting.{run_frees}
use Rattle.jfs_xtree.proofs.cutting.free_runs.Given as goal

abbrev pub invariant-loop-run : goal.invariant-loop-run
invariant-loop-run l = l.tx ≡ l.fn.tx ++ run_frees (take l.run-index l.runs)
