use Rattle.jfs_gains_logged.proofs.Calls.{gain_law}
use Rattle.jfs_gains_logged.proofs.law.gained_names_are_logged.Goals as goal

pub returns : goal.returns
returns c = gain_law
