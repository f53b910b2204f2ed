use Rattle.jfs_calls_logged.proofs.Found.{found_law}
use Rattle.jfs_calls_logged.proofs.law.paths_lead_to_objects.Goals as goal

pub returns : goal.returns
returns c = found_law
