use Rattle.jfs_shown.proofs.Places.{keeps_law}
use Rattle.jfs_shown.proofs.law.changes_keep_files.Goals as goal

pub returns : goal.returns
returns c = keeps_law
