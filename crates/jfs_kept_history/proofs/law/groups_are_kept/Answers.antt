use Rattle.jfs_kept_history.proofs.Quiet.{taken_law}
use Rattle.jfs_kept_history.proofs.law.groups_are_kept.Goals as goal

pub returns : goal.returns
returns g c = taken_law g.D.Disk.tells g.D.Disk.tells_crashes
