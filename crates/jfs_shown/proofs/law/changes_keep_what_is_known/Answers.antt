use Rattle.jfs_shown.proofs.Files.{change_law}
use Rattle.jfs_shown.proofs.law.changes_keep_what_is_known.Goals as goal

pub returns : goal.returns
returns c = change_law
