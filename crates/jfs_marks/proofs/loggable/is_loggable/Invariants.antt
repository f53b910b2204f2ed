use Rattle.std.proofs.Common.{drop}
use Rattle.std.specs.List.{AllByRecursion}
use Rattle.jfs_records.specs.Limits.{IsLoggable}
use Rattle.jfs_records.specs.Records.{noted}
use Rattle.jfs_marks.proofs.loggable.is_loggable.Given as goal

abbrev pub invariant-loop-i : goal.invariant-loop-i
invariant-loop-i l = AllByRecursion (IsLoggable l.blocks) (noted (drop l.i l.tx) (drop l.i l.notes)) → AllByRecursion (IsLoggable l.blocks) (noted l.tx l.notes)
