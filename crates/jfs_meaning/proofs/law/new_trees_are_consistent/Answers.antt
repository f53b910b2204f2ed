use Rattle.jfs_meaning.proofs.New.{new_tree_consistent}
use Rattle.jfs_meaning.proofs.law.new_trees_are_consistent.Goals as goal

pub returns : goal.returns
returns c = new_tree_consistent
