use Rattle.std.proofs.Common.{drop}
use Rattle.jfs_run.specs.Telling.{AreAsMany}
use Rattle.jfs_run.proofs.telling.are_whole.Given as goal

-- where the rest are as many, all are
abbrev pub invariant-loop-i : goal.invariant-loop-i
invariant-loop-i l = AreAsMany (drop l.i l.scripts) (drop l.i l.marks) → AreAsMany l.scripts l.marks
