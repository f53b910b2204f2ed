use Rattle.jfs_shared.proofs.Uncalled.{uncalled_law}
use Rattle.jfs_shared.proofs.law.crashes_of_mounts_are_redone.Goals as goal

pub returns : goal.returns
returns g c = uncalled_law g.D.Disk.tells g.D.Disk.tells_crashes
