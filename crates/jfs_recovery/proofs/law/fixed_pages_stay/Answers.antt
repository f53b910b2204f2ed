use Rattle.jfs_recovery.proofs.Parts.{fixed_low}
use Rattle.jfs_recovery.proofs.law.fixed_pages_stay.Goals as goal

pub returns : goal.returns
returns g c = let f = g.V.VolumeFace.face in let laws = g.V.VolumeFace.keeps_laws in fixed_low f laws
