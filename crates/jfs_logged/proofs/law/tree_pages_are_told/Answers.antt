use Rattle.jfs_logged.proofs.Pages.{pages_law}
use Rattle.jfs_logged.proofs.law.tree_pages_are_told.Goals as goal

pub returns : goal.returns
returns c = pages_law
