use Rattle.jfs_legal.proofs.Over.{lacked_law}
use Rattle.jfs_legal.proofs.law.calls_without_memory_end_it.Goals as goal

pub returns : goal.returns
returns g c = lacked_law g.D.Disk.tells g.D.Disk.tells_crashes
