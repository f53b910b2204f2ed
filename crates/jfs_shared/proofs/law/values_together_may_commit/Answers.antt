use Rattle.jfs_shared.proofs.Together.{together}
use Rattle.jfs_shared.proofs.law.values_together_may_commit.Goals as goal

pub returns : goal.returns
returns g c n x y k runs = together g.D.Disk n x y k runs
