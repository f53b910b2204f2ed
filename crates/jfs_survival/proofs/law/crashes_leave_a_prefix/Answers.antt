use Rattle.jfs_survival.proofs.Crashes.{crash_law}
use Rattle.jfs_survival.proofs.law.crashes_leave_a_prefix.Goals as goal

pub returns : goal.returns
returns c = crash_law
