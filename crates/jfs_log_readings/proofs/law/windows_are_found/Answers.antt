use Rattle.jfs_log_readings.proofs.Found.{found_law}
use Rattle.jfs_log_readings.proofs.law.windows_are_found.Goals as goal

pub returns : goal.returns
returns c = found_law
