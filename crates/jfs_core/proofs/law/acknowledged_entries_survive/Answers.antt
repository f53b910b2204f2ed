use Rattle.jfs_core.proofs.Steps.{told_survive}
use Rattle.jfs_core.proofs.law.acknowledged_entries_survive.Goals as goal

pub returns : goal.returns
returns c = told_survive
