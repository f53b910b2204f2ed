use Rattle.jfs_served.proofs.Between.{pointed_law}
use Rattle.jfs_served.proofs.law.syncpoints_leave_the_tree.Goals as goal

pub returns : goal.returns
returns c = pointed_law
