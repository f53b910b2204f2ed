use Rattle.jfs_contents_logged.proofs.Calls.{truncate_law}
use Rattle.jfs_contents_logged.proofs.law.changes_of_sizes_are_logged.Goals as goal

pub returns : goal.returns
returns c = truncate_law
