use Rattle.jfs_calls_kept.proofs.Does.{does_law}
use Rattle.jfs_calls_kept.proofs.law.calls_keep_volumes.Goals as goal

pub returns : goal.returns
returns g c = does_law g.D.Disk.tells g.D.Disk.tells_crashes
