use Rattle.std.proofs.Common.{List, length}
use Rattle.std.specs.List.{AllByRecursion}
use Rattle.jfs_logfmt.specs.Rules.{IsRecordOf}
use Rattle.jfs_logpages.specs.Back.{Met}
use Rattle.jfs_records.specs.Limits.{HasPage}
use Rattle.jfs_records.specs.FromText.{AreRecords}
use Rattle.jfs_records.proofs.FromText.{IsRead}
use Rattle.jfs_records.proofs.from_text.read_records.Given as goal

abbrev pub invariant-loop-end : goal.invariant-loop-end
invariant-loop-end l = ((ms : List Met) → AreRecords l.blocks l.read ms → IsRead l.blocks l.read.bytes.items ms l.records.items l.rest) × AllByRecursion HasPage l.records.items × AllByRecursion (IsRecordOf l.blocks) l.records.items

abbrev pub decreases-loop-end : goal.decreases-loop-end
decreases-loop-end l = length l.rest
