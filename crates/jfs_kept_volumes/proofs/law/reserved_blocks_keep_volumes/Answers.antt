use Rattle.jfs_kept_volumes.proofs.Reserved.{reserved_law}
use Rattle.jfs_kept_volumes.proofs.law.reserved_blocks_keep_volumes.Goals as goal

pub returns : goal.returns
returns c = reserved_law
