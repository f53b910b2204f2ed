use Rattle.jfs_redo.proofs.OneVolume.{redone_agree}
use Rattle.jfs_redo.proofs.law.redone_volumes_agree.Goals as goal

pub returns : goal.returns
returns c = redone_agree
