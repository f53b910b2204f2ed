use Rattle.jfs_shared.proofs.Served.{history_law}
use Rattle.jfs_shared.proofs.law.histories_are_legal.Goals as goal

pub returns : goal.returns
returns c = history_law
