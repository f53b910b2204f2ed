use Rattle.jfs_kept_history.proofs.Called.{kept_call}
use Rattle.jfs_kept_history.proofs.law.calls_are_kept.Goals as goal

pub returns : goal.returns
returns g c = kept_call g.D.Disk.tells g.D.Disk.tells_crashes
