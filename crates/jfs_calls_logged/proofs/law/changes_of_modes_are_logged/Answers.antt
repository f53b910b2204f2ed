use Rattle.jfs_calls_logged.proofs.Modes.{mode_law}
use Rattle.jfs_calls_logged.proofs.law.changes_of_modes_are_logged.Goals as goal

pub returns : goal.returns
returns c = mode_law
