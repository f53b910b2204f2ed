use Rattle.jfs_recovery.proofs.Redo.{always_recovers}
use Rattle.jfs_recovery.proofs.law.redo_recovers.Goals as goal

pub returns : goal.returns
returns g c = let f = g.V.VolumeFace.face in let laws = g.V.VolumeFace.keeps_laws in always_recovers f laws
