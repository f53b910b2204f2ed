use Rattle.jfs_logged.proofs.Staged.{stage_law}
use Rattle.jfs_logged.proofs.law.stages_are_logged.Goals as goal

pub returns : goal.returns
returns c = stage_law
