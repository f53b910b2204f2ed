use Rattle.jfs_writes_logged.proofs.Calls.{write_law}
use Rattle.jfs_writes_logged.proofs.law.writes_of_files_are_logged.Goals as goal

pub returns : goal.returns
returns c = write_law
