use Rattle.jfs_served.proofs.Between.{joined_law}
use Rattle.jfs_served.proofs.law.entries_alone_leave_the_tree.Goals as goal

pub returns : goal.returns
returns c = joined_law
