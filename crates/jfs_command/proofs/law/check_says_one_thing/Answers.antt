use Rattle.jfs_command.proofs.Checking.{one_thing}
use Rattle.jfs_command.proofs.law.check_says_one_thing.Goals as goal

pub returns : goal.returns
returns c = one_thing
