use Rattle.jfs_pages_held.proofs.Empty.{empty_law}
use Rattle.jfs_pages_held.proofs.law.entries_without_edits_leave_marks.Goals as goal

pub returns : goal.returns
returns c = empty_law
