use Rattle.jfs_served.proofs.Keeps.{again_law}
use Rattle.jfs_served.proofs.law.trees_stay_and_stay.Goals as goal

pub returns : goal.returns
returns c = again_law
