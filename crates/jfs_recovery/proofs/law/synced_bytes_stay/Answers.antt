use Rattle.jfs_recovery.proofs.Synced.{synced_bytes}
use Rattle.jfs_recovery.proofs.law.synced_bytes_stay.Goals as goal

pub returns : goal.returns
returns g c = let f = g.V.VolumeFace.face in let laws = g.V.VolumeFace.keeps_laws in synced_bytes f laws
