use Rattle.jfs_points_kept.proofs.Written.{home_maps_law}
use Rattle.jfs_points_kept.proofs.law.written_maps_keep_volumes.Goals as goal

pub returns : goal.returns
returns c = home_maps_law
