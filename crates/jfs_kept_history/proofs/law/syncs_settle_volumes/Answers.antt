use Rattle.jfs_kept_history.proofs.Steps.{settled}
use Rattle.jfs_kept_history.proofs.law.syncs_settle_volumes.Goals as goal

pub returns : goal.returns
returns g c = settled g.D.Disk.tells g.D.Disk.tells_crashes
