use Rattle.jfs_held_volumes.proofs.Quiet.{quiet_law}
use Rattle.jfs_held_volumes.proofs.law.commits_leave_volumes.Goals as goal

pub returns : goal.returns
returns c = quiet_law
