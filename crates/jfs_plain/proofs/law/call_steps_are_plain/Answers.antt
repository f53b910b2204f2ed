use Rattle.jfs_plain.proofs.Refusing.{one_step}
use Rattle.jfs_plain.proofs.law.call_steps_are_plain.Goals as goal

pub returns : goal.returns
returns c = one_step
