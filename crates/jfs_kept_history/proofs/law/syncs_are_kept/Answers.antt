use Rattle.jfs_kept_history.proofs.Steps.{synced}
use Rattle.jfs_kept_history.proofs.law.syncs_are_kept.Goals as goal

pub returns : goal.returns
returns g c = synced g.D.Disk.tells g.D.Disk.tells_crashes
