use Rattle.jfs_command.proofs.RunSaid.{one_thing}
use Rattle.jfs_command.proofs.law.run_says_one_thing.Goals as goal

pub returns : goal.returns
returns c = one_thing
