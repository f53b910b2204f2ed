use Rattle.jfs_map_rows.proofs.Stays.{released-stays}
use Rattle.jfs_map_rows.proofs.volume.release_all.Goals as goal

pub returns-in_ok-make_room : goal.returns-in_ok-make_room
returns-in_ok-make_room c b here = rw c.release.ensures (released-stays c.args.list.now c.args.entry c.make_room.new.self b (rw c.in_ok-make_room.ensures.ok here))
