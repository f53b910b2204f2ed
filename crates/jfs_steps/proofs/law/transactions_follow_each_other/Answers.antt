use Rattle.jfs_steps.proofs.After.{appended}
use Rattle.jfs_steps.proofs.law.transactions_follow_each_other.Goals as goal

pub returns : goal.returns
returns c = appended
