use Rattle.jfs_crashes_redone.proofs.Redone.{crashed_law}
use Rattle.jfs_crashes_redone.proofs.law.crashes_are_redone_to_volumes.Goals as goal

pub returns : goal.returns
returns c = crashed_law
