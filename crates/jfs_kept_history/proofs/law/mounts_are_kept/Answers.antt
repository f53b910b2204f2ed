use Rattle.jfs_kept_history.proofs.Begun.{begin_law}
use Rattle.jfs_kept_history.proofs.law.mounts_are_kept.Goals as goal

pub returns : goal.returns
returns g c = begin_law g.D.Disk.tells g.D.Disk.tells_crashes
