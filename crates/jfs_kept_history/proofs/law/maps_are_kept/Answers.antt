use Rattle.jfs_kept_history.proofs.Steps.{home_maps}
use Rattle.jfs_kept_history.proofs.law.maps_are_kept.Goals as goal

pub returns : goal.returns
returns g c = home_maps g.D.Disk.tells g.D.Disk.tells_crashes
