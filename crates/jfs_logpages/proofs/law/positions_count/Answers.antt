use Rattle.jfs_logpages.proofs.Positions.{number_is, reaches_back}
use Rattle.jfs_logpages.proofs.law.positions_count.Goals as goal

pub returns-clause-number : goal.returns-clause-number
returns-clause-number c = number_is

pub returns-clause-reach : goal.returns-clause-reach
returns-clause-reach c = reaches_back
