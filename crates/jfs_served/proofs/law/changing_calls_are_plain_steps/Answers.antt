use Rattle.jfs_served.proofs.Changed.{changed_law}
use Rattle.jfs_served.proofs.law.changing_calls_are_plain_steps.Goals as goal

pub returns : goal.returns
returns c = changed_law
