use Rattle.jfs_rename.proofs.Moved.{move_law}
use Rattle.jfs_rename.proofs.law.moves_take_the_plain_step.Goals as goal

pub returns : goal.returns
returns c = move_law
