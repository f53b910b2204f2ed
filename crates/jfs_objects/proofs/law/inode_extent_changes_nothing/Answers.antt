use Rattle.jfs_objects.proofs.Extent.{extent_law}
use Rattle.jfs_objects.proofs.law.inode_extent_changes_nothing.Goals as goal

pub returns : goal.returns
returns c = extent_law
