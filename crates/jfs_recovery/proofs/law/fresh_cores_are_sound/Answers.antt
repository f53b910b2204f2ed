use Rattle.jfs_recovery.proofs.Mount.{fresh_kept}
use Rattle.jfs_recovery.proofs.law.fresh_cores_are_sound.Goals as goal

pub returns : goal.returns
returns g c = let f = g.V.VolumeFace.face in let laws = g.V.VolumeFace.keeps_laws in fresh_kept f laws
