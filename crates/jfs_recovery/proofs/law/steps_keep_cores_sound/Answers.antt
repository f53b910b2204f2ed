use Rattle.jfs_recovery.proofs.Kept.{kept_steps}
use Rattle.jfs_recovery.proofs.law.steps_keep_cores_sound.Goals as goal

pub returns : goal.returns
returns g c = let f = g.V.VolumeFace.face in let laws = g.V.VolumeFace.keeps_laws in λ core steps sound allowed. kept_steps f laws core steps allowed sound
