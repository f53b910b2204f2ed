use Rattle.jfs_owners.proofs.Totals.{object_counted}
use Rattle.jfs_owners.proofs.owners.Owners.add_object.Goals as goal

pub returns-in-Ok-clause-adds : goal.returns-in-Ok-clause-adds
returns-in-Ok-clause-adds g c tells =
    object_counted (g.V.PageView.block_count c.args.view.now) (g.V.PageView.block_count c.add_names_of.new.view) (g.V.PageView.image c.args.view.now) (g.V.PageView.image c.add_names_of.new.view)
    c.args.d.now c.add_extents_of.result c.args.self.now c.add_attributes.new.self c.add_names_of.new.self c.add_extents_of.new.self
    c.add_names_of.ensures.count_of_blocks (c.add_names_of.ensures.image tells) c.add_attributes.ensures (c.in-Ok.ensures.adds tells) (c.add_extents_of.ensures.adds tells)
