use Rattle.jfs_core.specs.Run.{LeadsTo}
use Rattle.jfs_core.proofs.run.run_steps.Given as goal

abbrev pub invariant-loop-i : goal.invariant-loop-i
invariant-loop-i l = LeadsTo l.fn.core l.steps l.i l.core
