use Rattle.std.proofs.Common.{◌≡◌, drop}
use Rattle.jfs_marks.specs.Behind.{frees_behind}
use Rattle.jfs_marks.proofs.behind.frees_behind.Given as goal

abbrev pub invariant-loop-i : goal.invariant-loop-i
invariant-loop-i l = frees_behind (drop l.i l.tx) ≡ frees_behind l.tx
