use Rattle.jfs_format.proofs.Accepted.{inodes-accepted}
use Rattle.jfs_format.proofs.law.new_inodes_are_accepted.Goals as goal

pub returns : goal.returns
returns c = inodes-accepted
