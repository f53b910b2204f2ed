use Rattle.jfs_steps.proofs.After.{counts}
use Rattle.jfs_steps.proofs.law.blocks_in_use_are_counted.Goals as goal

pub returns : goal.returns
returns c = counts
