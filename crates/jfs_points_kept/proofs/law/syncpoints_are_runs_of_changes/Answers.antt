use Rattle.jfs_points_kept.proofs.Syncpoint.{syncpoint_law}
use Rattle.jfs_points_kept.proofs.law.syncpoints_are_runs_of_changes.Goals as goal

pub returns : goal.returns
returns c = syncpoint_law
