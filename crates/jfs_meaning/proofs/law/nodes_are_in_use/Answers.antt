use Rattle.jfs_meaning.proofs.Fresh.{nodes_law}
use Rattle.jfs_meaning.proofs.law.nodes_are_in_use.Goals as goal

pub returns : goal.returns
returns c = nodes_law
