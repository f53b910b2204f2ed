use Rattle.jfs_command.proofs.LogShown.{one_thing}
use Rattle.jfs_command.proofs.law.log_says_one_thing.Goals as goal

pub returns : goal.returns
returns c = one_thing
