use Rattle.jfs_kept_history.proofs.Steps.{pointed}
use Rattle.jfs_kept_history.proofs.law.points_are_kept.Goals as goal

pub returns : goal.returns
returns g c = pointed g.D.Disk.tells g.D.Disk.tells_crashes
