use Rattle.jfs_logged.proofs.Staged.{runs_law}
use Rattle.jfs_logged.proofs.law.runs_leave_other_pages.Goals as goal

pub returns : goal.returns
returns c = runs_law
