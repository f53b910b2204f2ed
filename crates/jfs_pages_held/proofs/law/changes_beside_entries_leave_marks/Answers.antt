use Rattle.jfs_pages_held.proofs.Beside.{beside_law}
use Rattle.jfs_pages_held.proofs.law.changes_beside_entries_leave_marks.Goals as goal

pub returns : goal.returns
returns c = beside_law
