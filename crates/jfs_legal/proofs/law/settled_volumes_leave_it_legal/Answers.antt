use Rattle.jfs_legal.proofs.Going.{settled_law}
use Rattle.jfs_legal.proofs.law.settled_volumes_leave_it_legal.Goals as goal

pub returns : goal.returns
returns g c = settled_law g.D.Disk.tells
