use Rattle.jfs_left_maps.proofs.Items.{fours_law}
use Rattle.jfs_left_maps.proofs.law.extents_have_four_blocks.Goals as goal

pub returns : goal.returns
returns c = fours_law
