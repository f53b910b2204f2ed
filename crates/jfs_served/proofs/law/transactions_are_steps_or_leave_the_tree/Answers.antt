use Rattle.jfs_served.proofs.Called.{called_law}
use Rattle.jfs_served.proofs.law.transactions_are_steps_or_leave_the_tree.Goals as goal

pub returns : goal.returns
returns c = called_law
