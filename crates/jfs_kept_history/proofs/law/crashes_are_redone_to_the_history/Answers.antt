use Rattle.jfs_kept_history.proofs.Crash.{crash_law}
use Rattle.jfs_kept_history.proofs.law.crashes_are_redone_to_the_history.Goals as goal

pub returns : goal.returns
returns c = crash_law
