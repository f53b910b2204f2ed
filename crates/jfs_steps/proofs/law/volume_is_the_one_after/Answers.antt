use Rattle.jfs_steps.proofs.After.{after_is}
use Rattle.jfs_steps.proofs.law.volume_is_the_one_after.Goals as goal

pub returns : goal.returns
returns c = after_is
