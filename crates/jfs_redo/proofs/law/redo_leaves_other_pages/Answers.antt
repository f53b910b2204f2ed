use Rattle.jfs_redo.proofs.TakenUp.{others_stay}
use Rattle.jfs_redo.proofs.law.redo_leaves_other_pages.Goals as goal

pub returns : goal.returns
returns c = others_stay
