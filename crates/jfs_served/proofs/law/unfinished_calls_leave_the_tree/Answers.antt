use Rattle.jfs_served.proofs.Given.{unfinished_law}
use Rattle.jfs_served.proofs.law.unfinished_calls_leave_the_tree.Goals as goal

pub returns : goal.returns
returns c = unfinished_law
