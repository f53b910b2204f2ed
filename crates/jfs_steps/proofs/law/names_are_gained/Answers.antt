use Rattle.jfs_steps.proofs.Grows.{gain_law}
use Rattle.jfs_steps.proofs.law.names_are_gained.Goals as goal

pub returns : goal.returns
returns c = gain_law
