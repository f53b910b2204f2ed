use Rattle.jfs_command.proofs.RedoSaid.{one_thing}
use Rattle.jfs_command.proofs.law.redo_says_one_thing.Goals as goal

pub returns : goal.returns
returns c = one_thing
