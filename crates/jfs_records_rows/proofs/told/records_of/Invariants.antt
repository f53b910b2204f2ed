use Rattle.std.specs.List.{AllByRecursion}
use Rattle.jfs_records.specs.Limits.{HasPage}
use Rattle.jfs_records_rows.proofs.told.records_of.Given as goal

abbrev pub invariant-loop-kind : goal.invariant-loop-kind
invariant-loop-kind l = AllByRecursion HasPage l.records.items
