use Rattle.jfs_rename_steps.proofs.entries.lose_entry.Goals as goal

pub returns-in-Ok-put_inode-clause-loses : goal.returns-in-Ok-put_inode-clause-loses
returns-in-Ok-put_inode-clause-loses g c tells = record {
  root = c.remove_on_top.new.root;
  mid = c.in-Ok.gone.tx;
  inode = c.in-Ok.gone.inode;
  width = c.turned-inode.ensures.width;
  size = c.turned-inode.ensures.size;
  parent = rw c.get_array-root.ensures at c.remove_on_top.ensures.parent;
  removes = rw c.get_array-root.ensures at (c.in-Ok.ensures.removes tells);
  gone = c.in-Ok.ensures.edits tells;
  puts = rw (c.remove_on_top.ensures.count_of_blocks, c.remove_on_top.ensures.image tells, c.turned-inode.ensures.value, c.saturating_sub-own.ensures, c.saturating_sub-fewer.ensures, c.frees_in.ensures, c.frees_in-before.ensures) at (c.in-Ok-put_inode.ensures.puts tells);
  lines = rw (c.remove_on_top.ensures.count_of_blocks, c.remove_on_top.ensures.image tells) at (c.in-Ok-put_inode.ensures.lines tells);
}
