use Rattle.jfs_image_volumes.proofs.Crash.{crash_law}
use Rattle.jfs_image_volumes.proofs.law.crashes_leave_a_volume_of_the_history.Goals as goal

pub returns : goal.returns
returns c = crash_law
