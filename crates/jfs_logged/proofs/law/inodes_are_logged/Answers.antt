use Rattle.jfs_logged.proofs.Edited.{inode_law}
use Rattle.jfs_logged.proofs.law.inodes_are_logged.Goals as goal

pub returns : goal.returns
returns c = inode_law
