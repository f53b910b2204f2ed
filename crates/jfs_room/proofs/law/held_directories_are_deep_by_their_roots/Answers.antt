use Rattle.jfs_room.proofs.Rooms.{held_law}
use Rattle.jfs_room.proofs.law.held_directories_are_deep_by_their_roots.Goals as goal

pub returns : goal.returns
returns c = held_law
