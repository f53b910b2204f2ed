use Rattle.jfs_new_volume.proofs.Room.{new_room}
use Rattle.jfs_new_volume.proofs.law.new_volume_has_room.Goals as goal

pub returns : goal.returns
returns c = new_room
