use Rattle.jfs_kept_history.proofs.Failed.{failed_law}
use Rattle.jfs_kept_history.proofs.law.failed_mounts_leave_volumes.Goals as goal

pub returns : goal.returns
returns c = failed_law
