use Rattle.std.proofs.Common.{◌≡◌, ◌++◌, map, drop}
use Rattle.jfs_records.specs.Committed.{marks_of}
use Rattle.jfs_records.proofs.read.push_marks.Given as goal

abbrev pub invariant-loop-run : goal.invariant-loop-run
invariant-loop-run l = l.into ++ map (marks_of l.taken) (drop l.run-index l.list) ≡ l.fn.into ++ map (marks_of l.taken) l.list
