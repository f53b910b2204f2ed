use Rattle.jfs_logged.proofs.Joined.{page_law}
use Rattle.jfs_logged.proofs.law.pages_are_logged.Goals as goal

pub returns : goal.returns
returns c = page_law
