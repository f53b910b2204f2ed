use Rattle.jfs_runs_held.proofs.Runs.{crash_law}
use Rattle.jfs_runs_held.proofs.law.crashes_of_runs_leave_a_front.Goals as goal

pub returns : goal.returns
returns c = crash_law
