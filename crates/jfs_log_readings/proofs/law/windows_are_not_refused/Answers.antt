use Rattle.jfs_log_readings.proofs.Readings.{unbroken_law}
use Rattle.jfs_log_readings.proofs.law.windows_are_not_refused.Goals as goal

pub returns : goal.returns
returns c = unbroken_law
