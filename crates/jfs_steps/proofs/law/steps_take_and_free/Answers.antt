use Rattle.jfs_steps.proofs.Sets.{step_takes}
use Rattle.jfs_steps.proofs.law.steps_take_and_free.Goals as goal

pub returns : goal.returns
returns c = step_takes
