use Rattle.jfs_runs.proofs.Counted.{all_laws}
use Rattle.jfs_runs.proofs.law.runs_are_blocks.Goals as goal

pub returns : goal.returns
returns c = all_laws
