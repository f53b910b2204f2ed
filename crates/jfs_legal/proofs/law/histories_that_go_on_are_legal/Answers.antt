use Rattle.jfs_legal.proofs.Going.{legal_law}
use Rattle.jfs_legal.proofs.law.histories_that_go_on_are_legal.Goals as goal

pub returns : goal.returns
returns c = legal_law
