use Rattle.jfs_legal.proofs.Over.{over_law}
use Rattle.jfs_legal.proofs.law.histories_that_go_on_may_end.Goals as goal

pub returns : goal.returns
returns c = over_law
