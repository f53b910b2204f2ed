use Rattle.jfs_room.proofs.Fresh.{fresh_is}
use Rattle.jfs_room.proofs.law.fresh_inode_is_picked.Goals as goal

pub returns : goal.returns
returns c = fresh_is
