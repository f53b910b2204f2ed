use Rattle.jfs_entered.proofs.Joined.{pages_law}
use Rattle.jfs_entered.proofs.law.pages_are_those_after.Goals as goal

pub returns : goal.returns
returns c = pages_law
