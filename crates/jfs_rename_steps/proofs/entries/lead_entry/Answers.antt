use Rattle.jfs_rename_steps.proofs.entries.lead_entry.Goals as goal

pub returns-in-Ok-put_inode-clause-leads : goal.returns-in-Ok-put_inode-clause-leads
returns-in-Ok-put_inode-clause-leads g c tells = record {
  root = c.replace.new.root;
  mid = c.replace.new.tx;
  old = c.in-Ok.field-0;
  width = c.turned-inode.ensures.width;
  size = c.turned-inode.ensures.size;
  parent = rw c.get_array-root.ensures at c.replace.ensures.parent;
  replaces = rw c.get_array-root.ensures at (c.in-Ok.ensures.replaces tells);
  edits = rw c.get_array-root.ensures at (c.in-Ok.ensures.edits tells);
  inode_is = c.turned-inode.ensures.value;
  puts = rw (c.replace.ensures.count_of_blocks, c.replace.ensures.image tells) at (c.in-Ok-put_inode.ensures.puts tells);
  lines = rw (c.replace.ensures.count_of_blocks, c.replace.ensures.image tells) at (c.in-Ok-put_inode.ensures.lines tells);
}
