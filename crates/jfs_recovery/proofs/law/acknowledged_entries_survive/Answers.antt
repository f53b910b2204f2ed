use Rattle.jfs_recovery.proofs.Grown.{survives}
use Rattle.jfs_recovery.proofs.law.acknowledged_entries_survive.Goals as goal

pub returns : goal.returns
returns g c = let f = g.V.VolumeFace.face in let laws = g.V.VolumeFace.keeps_laws in survives f laws
