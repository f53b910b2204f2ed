use Rattle.jfs_meaning.proofs.Changed.{drop_tree}
use Rattle.jfs_meaning.proofs.law.one_node_goes.Goals as goal

pub returns : goal.returns
returns c = drop_tree
