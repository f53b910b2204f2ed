use Rattle.jfs_runs.proofs.Left.{what_is_left}
use Rattle.jfs_runs.proofs.law.what_is_left_is_reserved.Goals as goal

pub returns : goal.returns
returns c = what_is_left
