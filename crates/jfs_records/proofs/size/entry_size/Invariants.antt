use Rattle.std.proofs.Common.{map, drop}
use Rattle.jfs_records.specs.Records.{noted, record_of}
use Rattle.jfs_records.specs.Sizes.{entry_size}
use Rattle.jfs_records.specs.Steps.{IsMeasured}
use Rattle.jfs_records.proofs.size.entry_size.Given as goal

abbrev pub invariant-loop-i : goal.invariant-loop-i
invariant-loop-i l = IsMeasured l.measure.open.first.now l.measure.open.owner l.measure.open.bytes l.measure.size (map record_of (drop l.i (noted l.edits l.notes))) (entry_size (noted l.edits l.notes))
