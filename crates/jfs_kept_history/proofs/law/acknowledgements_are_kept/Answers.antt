use Rattle.jfs_kept_history.proofs.Quiet.{told_law}
use Rattle.jfs_kept_history.proofs.law.acknowledgements_are_kept.Goals as goal

pub returns : goal.returns
returns g c = told_law g.D.Disk.tells g.D.Disk.tells_crashes
