use Rattle.jfs_points_kept.proofs.Points.{know_law, point_law}
use Rattle.jfs_points_kept.proofs.law.points_keep_volumes.Goals as goal

pub returns-clause-point : goal.returns-clause-point
returns-clause-point c = point_law

pub returns-clause-know : goal.returns-clause-know
returns-clause-know c = know_law
