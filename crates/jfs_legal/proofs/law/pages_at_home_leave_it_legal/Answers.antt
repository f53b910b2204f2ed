use Rattle.jfs_legal.proofs.Going.{pointed_law}
use Rattle.jfs_legal.proofs.law.pages_at_home_leave_it_legal.Goals as goal

pub returns : goal.returns
returns g c = pointed_law g.D.Disk.tells
