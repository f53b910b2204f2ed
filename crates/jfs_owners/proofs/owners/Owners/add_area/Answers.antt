use Rattle.jfs_owners.proofs.Areas.{area_counted}
use Rattle.jfs_owners.proofs.owners.Owners.add_area.Goals as goal

pub returns-clause-adds : goal.returns-clause-adds
returns-clause-adds g c tells =
    area_counted (g.V.PageView.block_count c.args.view.now) (g.V.PageView.block_count c.add_file.new.view) (g.V.PageView.block_count c.add_file-2.new.view)
    (g.V.PageView.image c.args.view.now) (g.V.PageView.image c.add_file.new.view) (g.V.PageView.image c.add_file-2.new.view) c.args.table c.args.map c.add_file-3.result
    c.args.self.now c.add_fixed.new.self c.add_file.new.self c.add_file-2.new.self c.add_file-3.new.self
    c.add_file.ensures.count_of_blocks (c.add_file.ensures.image tells) c.add_file-2.ensures.count_of_blocks (c.add_file-2.ensures.image tells)
    c.add_fixed.ensures (c.in_ok-add_file.ensures.adds tells) (c.in_ok-add_file-2.ensures.adds tells) (c.add_file-3.ensures.adds tells)
