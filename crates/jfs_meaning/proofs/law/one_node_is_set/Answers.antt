use Rattle.jfs_meaning.proofs.Changed.{set_tree}
use Rattle.jfs_meaning.proofs.law.one_node_is_set.Goals as goal

pub returns : goal.returns
returns c = set_tree
