use Rattle.jfs_served.proofs.Between.{asked_law}
use Rattle.jfs_served.proofs.law.asked_volumes_keep_the_tree.Goals as goal

pub returns : goal.returns
returns c = asked_law
