use Rattle.jfs_points_kept.proofs.Homes.{sync_law}
use Rattle.jfs_points_kept.proofs.Points.{settled_law}
use Rattle.jfs_points_kept.proofs.law.synced_volumes_are_settled.Goals as goal

pub returns-clause-sync : goal.returns-clause-sync
returns-clause-sync c = sync_law

pub returns-clause-settled : goal.returns-clause-settled
returns-clause-settled c = settled_law
