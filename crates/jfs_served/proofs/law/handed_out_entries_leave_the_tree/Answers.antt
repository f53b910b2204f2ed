use Rattle.jfs_served.proofs.Between.{handed_out_law}
use Rattle.jfs_served.proofs.law.handed_out_entries_leave_the_tree.Goals as goal

pub returns : goal.returns
returns c = handed_out_law
