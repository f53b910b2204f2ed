use Rattle.jfs_recovery.proofs.Forward.{forward_gives}
use Rattle.jfs_recovery.proofs.law.redo_runs_forwards.Goals as goal

pub returns : goal.returns
returns g c = let f = g.V.VolumeFace.face in let laws = g.V.VolumeFace.keeps_laws in forward_gives f laws
