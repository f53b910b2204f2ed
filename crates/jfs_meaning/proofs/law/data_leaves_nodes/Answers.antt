use Rattle.jfs_meaning.proofs.Changed.{data_tree}
use Rattle.jfs_meaning.proofs.law.data_leaves_nodes.Goals as goal

pub returns : goal.returns
returns c = data_tree
