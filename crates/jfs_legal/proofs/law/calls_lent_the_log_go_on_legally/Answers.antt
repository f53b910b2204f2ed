use Rattle.jfs_legal.proofs.Going.{lent_law}
use Rattle.jfs_legal.proofs.law.calls_lent_the_log_go_on_legally.Goals as goal

pub returns : goal.returns
returns g c = lent_law g.D.Disk.tells g.D.Disk.tells_crashes
