use Rattle.jfs_served.proofs.Given.{given_back_law}
use Rattle.jfs_served.proofs.law.calls_given_back_leave_the_tree.Goals as goal

pub returns : goal.returns
returns c = given_back_law
