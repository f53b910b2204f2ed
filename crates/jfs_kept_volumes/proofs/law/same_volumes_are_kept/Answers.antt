use Rattle.jfs_kept_volumes.proofs.Same.{same_law, settled_law}
use Rattle.jfs_kept_volumes.proofs.law.same_volumes_are_kept.Goals as goal

pub returns-clause-same : goal.returns-clause-same
returns-clause-same c = same_law

pub returns-clause-settled : goal.returns-clause-settled
returns-clause-settled c = settled_law
