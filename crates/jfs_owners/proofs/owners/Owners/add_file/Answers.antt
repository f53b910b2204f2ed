use Rattle.jfs_owners.proofs.Areas.{file_counted}
use Rattle.jfs_owners.proofs.owners.Owners.add_file.Goals as goal

pub returns-in-Ok-clause-adds : goal.returns-in-Ok-clause-adds
returns-in-Ok-clause-adds g c tells =
    file_counted (g.V.PageView.block_count c.args.view.now) (g.V.PageView.block_count c.aggregate_root.new.view) (g.V.PageView.image c.args.view.now) (g.V.PageView.image c.aggregate_root.new.view)
    c.in-Ok.root c.args.k c.add_extents.result c.args.self.now c.add_extents.new.self
    c.aggregate_root.ensures.count_of_blocks (c.aggregate_root.ensures.image tells) (c.in-Ok.ensures.root tells) (c.add_extents.ensures.adds tells)
