use Rattle.jfs_kept_history.proofs.Keepable.{mount_to_keep}
use Rattle.jfs_kept_history.proofs.law.mounts_leave_whole_pages.Goals as goal

pub returns : goal.returns
returns g c = mount_to_keep g.D.Disk.tells g.D.Disk.tells_crashes
