use Rattle.jfs_held_volumes.proofs.Crash.{crash_law}
use Rattle.jfs_held_volumes.proofs.law.crashes_at_any_moment_leave_a_front.Goals as goal

pub returns : goal.returns
returns c = crash_law
