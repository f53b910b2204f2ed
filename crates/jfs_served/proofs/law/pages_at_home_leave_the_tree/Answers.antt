use Rattle.jfs_served.proofs.Between.{home_law}
use Rattle.jfs_served.proofs.law.pages_at_home_leave_the_tree.Goals as goal

pub returns : goal.returns
returns c = home_law
