use Rattle.jfs_room.proofs.Blocks.{free_is}
use Rattle.jfs_room.proofs.law.unowned_blocks_are_free.Goals as goal

pub returns : goal.returns
returns c = free_is
