use Rattle.jfs_script.proofs.OneMeaning.{one_thing}
use Rattle.jfs_script.proofs.law.scripts_mean_one_thing.Goals as goal

pub returns : goal.returns
returns c = one_thing
