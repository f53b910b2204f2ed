use Rattle.jfs_redone_volumes.proofs.Superblock.{superblock_law}
use Rattle.jfs_redone_volumes.proofs.law.superblocks_leave_volumes.Goals as goal

pub returns : goal.returns
returns c = superblock_law
