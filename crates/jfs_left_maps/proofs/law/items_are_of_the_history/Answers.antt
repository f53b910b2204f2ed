use Rattle.jfs_left_maps.proofs.Items.{items_law}
use Rattle.jfs_left_maps.proofs.law.items_are_of_the_history.Goals as goal

pub returns : goal.returns
returns c = items_law
