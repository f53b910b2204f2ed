use Rattle.jfs_shared.proofs.Left.{left_is}
use Rattle.jfs_shared.proofs.law.crashes_are_redone_to_histories.Goals as goal

pub returns : goal.returns
returns g c n x y k t asks checked = left_is g.D.Disk n x y k (g.met.D.Disk.reads_now y.side.part) t asks checked
