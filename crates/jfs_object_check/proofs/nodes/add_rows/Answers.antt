-- One extent more, and all of them.
use Rattle.jfs_tree.specs.Walking.{rows_in}
use Rattle.jfs_xtree.specs.Node.{xt_node}
use Rattle.jfs_object_check.proofs.Holding.{row_more}
use Rattle.jfs_object_check.proofs.nodes.add_rows.Goals as goal

pub loop-i-preserved : goal.loop-i-preserved
loop-i-preserved c = record {
  held = row_more (rows_in (xt_node c.args.form.now.form c.args.form.now.blocks c.args.bytes.now)) c.loop-i.i c.read_entry.new.x c.args.owners.now c.loop-i.owners c.add.new.self c.read_entry.ensures c.loop-i.invariant.held c.add.ensures;
}
