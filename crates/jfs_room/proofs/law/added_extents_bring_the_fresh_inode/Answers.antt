use Rattle.jfs_room.proofs.Added.{added_law}
use Rattle.jfs_room.proofs.law.added_extents_bring_the_fresh_inode.Goals as goal

pub returns : goal.returns
returns c = added_law
