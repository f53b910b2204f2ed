use Rattle.jfs_recovery.proofs.Synced.{still_leaves}
use Rattle.jfs_recovery.proofs.law.still_blocks_stay.Goals as goal

pub returns : goal.returns
returns g c = let f = g.V.VolumeFace.face in still_leaves f
