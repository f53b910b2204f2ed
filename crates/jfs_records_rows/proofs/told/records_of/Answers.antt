use Rattle.jfs_records.specs.Limits.{HasPage}
use Rattle.jfs_records_rows.proofs.Pushed.{all_pushed}
use Rattle.jfs_records_rows.proofs.told.records_of.Goals as goal

pub loop-kind-preserved : goal.loop-kind-preserved
loop-kind-preserved c = rw c.in_ok-push.ensures.items (all_pushed HasPage c.loop-kind.records.items c.in_ok-record_of.field-0 c.loop-kind.invariant c.in_ok-record_of.ensures)
