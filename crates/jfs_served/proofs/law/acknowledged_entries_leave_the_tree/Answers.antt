use Rattle.jfs_served.proofs.Between.{acknowledged_law}
use Rattle.jfs_served.proofs.law.acknowledged_entries_leave_the_tree.Goals as goal

pub returns : goal.returns
returns c = acknowledged_law
