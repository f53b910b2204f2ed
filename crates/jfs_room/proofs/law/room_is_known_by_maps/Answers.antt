use Rattle.jfs_room.proofs.Rooms.{room_law}
use Rattle.jfs_room.proofs.law.room_is_known_by_maps.Goals as goal

pub returns : goal.returns
returns c = room_law
