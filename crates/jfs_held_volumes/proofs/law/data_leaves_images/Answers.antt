use Rattle.jfs_held_volumes.proofs.Data.{data_law}
use Rattle.jfs_held_volumes.proofs.law.data_leaves_images.Goals as goal

pub returns : goal.returns
returns c = data_law
