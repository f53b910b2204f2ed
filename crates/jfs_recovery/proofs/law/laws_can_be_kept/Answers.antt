use Rattle.jfs_recovery.proofs.SmallFace.{small_laws}
use Rattle.jfs_recovery.proofs.law.laws_can_be_kept.Goals as goal

pub returns : goal.returns
returns c = small_laws
