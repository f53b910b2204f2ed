use Rattle.jfs_legal.proofs.Going.{call_law}
use Rattle.jfs_legal.proofs.law.calls_go_on_legally.Goals as goal

pub returns : goal.returns
returns g c = call_law g.D.Disk.tells g.D.Disk.tells_crashes
