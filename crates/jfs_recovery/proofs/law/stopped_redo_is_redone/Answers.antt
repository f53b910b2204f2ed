use Rattle.jfs_recovery.proofs.Again.{redone_again}
use Rattle.jfs_recovery.proofs.law.stopped_redo_is_redone.Goals as goal

pub returns : goal.returns
returns g c = let f = g.V.VolumeFace.face in let laws = g.V.VolumeFace.keeps_laws in redone_again f laws
