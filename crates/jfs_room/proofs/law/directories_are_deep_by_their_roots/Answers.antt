use Rattle.jfs_room.proofs.Rooms.{deep_law}
use Rattle.jfs_room.proofs.law.directories_are_deep_by_their_roots.Goals as goal

pub returns : goal.returns
returns c = deep_law
