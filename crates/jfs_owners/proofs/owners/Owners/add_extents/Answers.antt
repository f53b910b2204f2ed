use Rattle.jfs_owners.proofs.Totals.{extents_counted}
use Rattle.jfs_owners.proofs.owners.Owners.add_extents.Goals as goal

pub returns-in-Ok-clause-adds : goal.returns-in-Ok-clause-adds
returns-in-Ok-clause-adds g c tells =
    extents_counted c.blocks-blocks.result (g.V.PageView.block_count c.args.view.now) (g.V.PageView.image c.args.view.now) c.args.root.now c.in-Ok.field-0 c.args.self.now c.show_tree.new.visitor
    c.blocks-blocks.ensures (c.in-Ok.ensures.sees tells)
