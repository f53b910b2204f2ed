use Rattle.jfs_moves_logged.proofs.Calls.{rename_law}
use Rattle.jfs_moves_logged.proofs.law.renames_are_logged.Goals as goal

pub returns : goal.returns
returns c = rename_law
