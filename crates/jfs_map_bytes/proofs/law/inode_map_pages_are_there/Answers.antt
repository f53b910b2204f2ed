use Rattle.jfs_map_bytes.proofs.Whole.{inode_pages}
use Rattle.jfs_map_bytes.proofs.law.inode_map_pages_are_there.Goals as goal

pub returns : goal.returns
returns c = inode_pages
