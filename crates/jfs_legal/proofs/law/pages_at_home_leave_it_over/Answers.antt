use Rattle.jfs_legal.proofs.Over.{over_pointed_law}
use Rattle.jfs_legal.proofs.law.pages_at_home_leave_it_over.Goals as goal

pub returns : goal.returns
returns g c = over_pointed_law g.D.Disk.tells
