use Rattle.jfs_kept_history.proofs.Steps.{home_all}
use Rattle.jfs_kept_history.proofs.law.homes_are_kept.Goals as goal

pub returns : goal.returns
returns g c = home_all g.D.Disk.tells g.D.Disk.tells_crashes
