use Rattle.jfs_recovery.proofs.Parts.{any_counts}
use Rattle.jfs_recovery.proofs.law.other_counts_are_sound.Goals as goal

pub returns : goal.returns
returns g c = let f = g.V.VolumeFace.face in any_counts f
