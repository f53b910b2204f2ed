use Rattle.jfs_left_volumes.proofs.Left.{left_law}
use Rattle.jfs_left_volumes.proofs.law.own_logs_lead_to_volumes_of_the_history.Goals as goal

pub returns : goal.returns
returns c = left_law
