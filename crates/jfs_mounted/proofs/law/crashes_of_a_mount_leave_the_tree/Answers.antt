use Rattle.jfs_mounted.proofs.Left.{crash_law}
use Rattle.jfs_mounted.proofs.law.crashes_of_a_mount_leave_the_tree.Goals as goal

pub returns : goal.returns
returns c = crash_law
