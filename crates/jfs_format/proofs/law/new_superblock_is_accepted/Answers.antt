use Rattle.jfs_format.proofs.Accepted.{super-accepted}
use Rattle.jfs_format.proofs.law.new_superblock_is_accepted.Goals as goal

pub returns : goal.returns
returns c = super-accepted
