use Rattle.jfs_disk.specs.Image.{page_of}
use Rattle.jfs_loss.specs.steps.proofs.Grows.{refused_told}
use Rattle.jfs_rename_steps.proofs.entries.gain_entry.Goals as goal

pub returns-in-Err-clause-refused : goal.returns-in-Err-clause-refused
returns-in-Err-clause-refused g c tells = refused_told (g.V.PageView.block_count c.args.view.now) (page_of (g.V.PageView.image c.args.view.now)) c.args.dir.now c.args.name.now c.args.gain c.args.fresh.now c.get_array-root.result
    c.from_names.result c.in-Err.e c.get_array-root.ensures c.from_names.ensures.value (c.in-Err.ensures.refused tells) (c.in-Err.ensures.way tells)

pub returns-in-Ok-put_inode-clause-gains : goal.returns-in-Ok-put_inode-clause-gains
returns-in-Ok-put_inode-clause-gains g c tells = record {
  root = c.add.new.root;
  mid = c.add.new.tx;
  width = c.turned-inode.ensures.width;
  size = c.turned-inode.ensures.size;
  parent = rw c.get_array-root.ensures at c.add.ensures.parent;
  adds = rw (c.get_array-root.ensures, c.new-tx.ensures) at (c.in-Ok.ensures.adds tells);
  taken = rw c.new-tx.ensures at (c.in-Ok.ensures.edits tells);
  inode_is = rw c.own_after-own.ensures at c.turned-inode.ensures.value;
  puts = rw (c.add.ensures.count_of_blocks, c.add.ensures.image tells) at (c.in-Ok-put_inode.ensures.puts tells);
  lines = rw (c.add.ensures.count_of_blocks, c.add.ensures.image tells) at (c.in-Ok-put_inode.ensures.lines tells);
}
