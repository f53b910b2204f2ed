use Rattle.jfs_bmap.specs.States.{Free}
use Rattle.jfs_map_rows.proofs.Stays.{reserve-stays}
use Rattle.jfs_map_rows.proofs.volume.try_out.Goals as goal

pub returns : goal.returns
returns c = rw (c.give_back.ensures, c.in_ok-list.ensures.reserved) (reserve-stays Free c.in_ok-list.list c.args.map.now c.in_ok-list.ensures.free)
