use Rattle.std.proofs.Common.{◌≡◌, ◌++◌, drop}
use Rattle.jfs_xtpage.specs.Page.{entries_of}
use Rattle.jfs_xtree.specs.CutParts.{runs_of}
use Rattle.jfs_xtree.proofs.free_below.push_runs.Given as goal

abbrev pub invariant-loop-i : goal.invariant-loop-i
invariant-loop-i l = l.runs ++ runs_of (drop l.i (entries_of l.bytes)) ≡ l.fn.runs ++ runs_of (drop l.fn.from (entries_of l.bytes))
