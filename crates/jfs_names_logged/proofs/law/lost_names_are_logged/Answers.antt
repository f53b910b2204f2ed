use Rattle.jfs_names_logged.proofs.Calls.{loss_law}
use Rattle.jfs_names_logged.proofs.law.lost_names_are_logged.Goals as goal

pub returns : goal.returns
returns c = loss_law
