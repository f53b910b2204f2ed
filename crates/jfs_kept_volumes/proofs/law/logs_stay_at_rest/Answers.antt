use Rattle.jfs_kept_volumes.proofs.Rests.{begin_law, point_law, rest_law}
use Rattle.jfs_kept_volumes.proofs.law.logs_stay_at_rest.Goals as goal

pub returns-clause-start : goal.returns-clause-start
returns-clause-start c = begin_law

pub returns-clause-changes : goal.returns-clause-changes
returns-clause-changes c = rest_law

pub returns-clause-points : goal.returns-clause-points
returns-clause-points c = point_law
