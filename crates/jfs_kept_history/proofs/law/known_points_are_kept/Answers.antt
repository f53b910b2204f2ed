use Rattle.jfs_kept_history.proofs.Steps.{known}
use Rattle.jfs_kept_history.proofs.law.known_points_are_kept.Goals as goal

pub returns : goal.returns
returns g c = known g.D.Disk.tells g.D.Disk.tells_crashes
