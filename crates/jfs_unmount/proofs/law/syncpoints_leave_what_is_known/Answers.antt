use Rattle.jfs_unmount.proofs.Synced.{still_known_law}
use Rattle.jfs_unmount.proofs.law.syncpoints_leave_what_is_known.Goals as goal

pub returns : goal.returns
returns c = still_known_law
