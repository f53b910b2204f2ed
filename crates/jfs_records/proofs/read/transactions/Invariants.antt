use Rattle.std.proofs.Common.{◌≡◌, ◌++◌, [], drop}
use Rattle.jfs_records.specs.Committed.{transactions}
use Rattle.jfs_records.proofs.read.transactions.Given as goal

abbrev pub invariant-loop-record : goal.invariant-loop-record
invariant-loop-record l = l.done ++ transactions l.begun (drop l.record-index l.records) ≡ transactions [] l.records
