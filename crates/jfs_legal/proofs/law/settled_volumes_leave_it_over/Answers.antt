use Rattle.jfs_legal.proofs.Over.{over_settled_law}
use Rattle.jfs_legal.proofs.law.settled_volumes_leave_it_over.Goals as goal

pub returns : goal.returns
returns g c = over_settled_law g.D.Disk.tells
