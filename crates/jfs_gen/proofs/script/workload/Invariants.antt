use Rattle.jfs_gen.specs.Workload.{lines_of}
use Rattle.jfs_gen.proofs.Lines.{Comes}
use Rattle.jfs_gen.proofs.script.workload.Given as goal

abbrev pub invariant-loop-i : goal.invariant-loop-i
invariant-loop-i l = Comes l.client l.calls l.i l.x l.lines.items (lines_of l.number l.client l.calls)
