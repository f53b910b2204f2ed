use Rattle.jfs_disk.specs.Image.{page_of}
use Rattle.jfs_way.specs.Walk.{tree_in}
use Rattle.jfs_place.proofs.Fronts.{stands}
use Rattle.jfs_place.proofs.last_name.occupant.Goals as goal

pub returns-in-Ok-clause-follows : goal.returns-in-Ok-clause-follows
returns-in-Ok-clause-follows g c tells names within area map con there =
    stands (tree_in (g.V.PageView.block_count c.args.view.now) (page_of (g.V.PageView.image c.args.view.now)) area map c.args.inodes.now) c.args.dir.now.number c.args.name.now c.in-Ok.found
    (c.in-Ok.ensures.follows tells within area map con there)
