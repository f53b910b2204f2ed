use Rattle.jfs_files_logged.proofs.Calls.{files_law}
use Rattle.jfs_files_logged.proofs.law.changes_of_files_are_logged.Goals as goal

pub returns : goal.returns
returns c = files_law
