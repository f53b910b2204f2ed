use Rattle.jfs_logged.proofs.Left.{left_law}
use Rattle.jfs_logged.proofs.law.edits_that_leave_a_page_have_no_line_of_it.Goals as goal

pub returns : goal.returns
returns c = left_law
