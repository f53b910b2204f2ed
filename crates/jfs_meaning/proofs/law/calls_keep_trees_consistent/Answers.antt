use Rattle.jfs_meaning.proofs.Steps.{step_keeps}
use Rattle.jfs_meaning.proofs.law.calls_keep_trees_consistent.Goals as goal

pub returns : goal.returns
returns c = step_keeps
