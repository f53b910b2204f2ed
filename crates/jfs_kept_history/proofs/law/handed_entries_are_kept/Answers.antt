use Rattle.jfs_kept_history.proofs.Quiet.{handed_law}
use Rattle.jfs_kept_history.proofs.law.handed_entries_are_kept.Goals as goal

pub returns : goal.returns
returns g c = handed_law g.D.Disk.tells g.D.Disk.tells_crashes
