use Rattle.jfs_new_volume.proofs.Tree.{new_volume_tree}
use Rattle.jfs_new_volume.proofs.law.new_volume_has_the_new_tree.Goals as goal

pub returns : goal.returns
returns c = new_volume_tree
