use Rattle.jfs_face.proofs.Recovered.{recovered}
use Rattle.jfs_face.proofs.law.volumes_survive_crashes.Goals as goal

pub returns : goal.returns
returns c = recovered
