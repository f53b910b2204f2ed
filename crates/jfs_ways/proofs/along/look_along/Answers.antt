use Rattle.std.proofs.Common.{◌-◌, length}
use Rattle.jfs_xtree.specs.Spells.{root_form}
use Rattle.jfs_ways.proofs.Ways.{along_as}
use Rattle.jfs_ways.proofs.along.look_along.Goals as goal

pub returns-in-Err-clause-way : goal.returns-in-Err-clause-way
returns-in-Err-clause-way g c tells =
    along_as c.blocks-blocks.result (g.V.PageView.block_count c.args.view.now) c.root_form-form.result (root_form (length c.args.root.now)) (g.V.PageView.image c.args.view.now) c.args.root.now c.args.first (c.args.end - c.args.first)
    c.in-Err.e c.handed_on.result c.blocks-blocks.ensures c.root_form-form.ensures c.handed_on.ensures (c.in-Err.ensures.way tells)
