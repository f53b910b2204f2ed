use Rattle.jfs_logged.proofs.Joined.{join_law}
use Rattle.jfs_logged.proofs.law.parts_are_logged_together.Goals as goal

pub returns : goal.returns
returns c = join_law
