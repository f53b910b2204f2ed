use Rattle.jfs_joined_logged.proofs.Answered.{answered_law}
use Rattle.jfs_joined_logged.proofs.law.answered_calls_are_logged.Goals as goal

pub returns : goal.returns
returns c = answered_law
