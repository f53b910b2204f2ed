use Rattle.jfs_kept_history.proofs.Lost.{lost_law}
use Rattle.jfs_kept_history.proofs.law.lost_groups_are_redone_to_the_history.Goals as goal

pub returns : goal.returns
returns g c = lost_law g.D.Disk.tells g.D.Disk.tells_crashes
