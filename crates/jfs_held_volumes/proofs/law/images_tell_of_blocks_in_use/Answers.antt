use Rattle.jfs_held_volumes.proofs.Data.{same_law}
use Rattle.jfs_held_volumes.proofs.law.images_tell_of_blocks_in_use.Goals as goal

pub returns : goal.returns
returns c = same_law
