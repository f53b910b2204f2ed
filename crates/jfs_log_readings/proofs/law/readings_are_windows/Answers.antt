use Rattle.jfs_log_readings.proofs.Readings.{reading_law}
use Rattle.jfs_log_readings.proofs.law.readings_are_windows.Goals as goal

pub returns : goal.returns
returns c = reading_law
