use Rattle.jfs_kept_history.proofs.Rested.{rested_law}
use Rattle.jfs_kept_history.proofs.law.rested_disks_are_redone_to_the_history.Goals as goal

pub returns : goal.returns
returns g c = rested_law g.D.Disk.tells g.D.Disk.tells_crashes
