use Rattle.jfs_meaning.proofs.Changed.{extent_tree}
use Rattle.jfs_meaning.proofs.law.inode_extent_leaves_the_tree.Goals as goal

pub returns : goal.returns
returns c = extent_tree
