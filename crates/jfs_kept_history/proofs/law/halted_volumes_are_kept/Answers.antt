use Rattle.jfs_kept_history.proofs.Quiet.{halted_law}
use Rattle.jfs_kept_history.proofs.law.halted_volumes_are_kept.Goals as goal

pub returns : goal.returns
returns c = halted_law
