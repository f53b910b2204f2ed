use Rattle.jfs_recovered_volumes.proofs.Recovered.{recovered_law}
use Rattle.jfs_recovered_volumes.proofs.law.crashed_volumes_are_recovered.Goals as goal

pub returns : goal.returns
returns c = recovered_law
