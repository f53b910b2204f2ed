use Rattle.jfs_format.specs.Root.{no_extents}
use Rattle.jfs_format.proofs.inodes.no_extents.Goals as goal

pub returns : goal.returns
unfolding no_extents
returns c = c.put_extent_head.ensures
