use Rattle.jfs_halves.proofs.Stepped.{are_steps}
use Rattle.jfs_halves.proofs.law.changes_are_steps.Goals as goal

pub returns : goal.returns
returns c = are_steps
