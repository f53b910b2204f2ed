use Rattle.jfs_bmap.specs.States.{Owned}
use Rattle.jfs_map_rows.proofs.Stays.{reserve-stays}
use Rattle.jfs_map_rows.proofs.volume.take.Goals as goal

pub returns-clause-stays : goal.returns-clause-stays
returns-clause-stays c = rw (c.own.ensures, c.in_ok-list.ensures.reserved) (reserve-stays Owned c.in_ok-list.list c.args.map.now c.in_ok-list.ensures.free)
