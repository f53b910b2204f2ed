use Rattle.std.proofs.Common.{map, drop}
use Rattle.jfs_records.specs.Records.{noted, record_of, records_of}
use Rattle.jfs_records.specs.Steps.{IsGrouped}
use Rattle.jfs_records.proofs.regroup.records_of.Given as goal

abbrev pub invariant-loop-i : goal.invariant-loop-i
invariant-loop-i l =
    IsGrouped l.grouping.open.first.now l.grouping.open.owner l.grouping.open.bytes l.grouping.closed.items l.grouping.last (map record_of (drop l.i (noted l.edits l.notes))) (records_of (noted l.edits l.notes))
