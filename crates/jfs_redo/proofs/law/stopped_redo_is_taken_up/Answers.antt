use Rattle.jfs_redo.proofs.TakenUp.{stopped_redo}
use Rattle.jfs_redo.proofs.law.stopped_redo_is_taken_up.Goals as goal

pub returns : goal.returns
returns c = stopped_redo
