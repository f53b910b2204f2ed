use Rattle.jfs_alike.proofs.Alike.{alike_law}
use Rattle.jfs_alike.proofs.law.alike_volumes_mean_the_same.Goals as goal

pub returns : goal.returns
returns c = alike_law
