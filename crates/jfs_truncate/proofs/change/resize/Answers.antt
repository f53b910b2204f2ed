use Rattle.jfs_truncate.proofs.change.resize.Goals as goal

pub returns-in-Ok-put_inode-clause-resizes : goal.returns-in-Ok-put_inode-clause-resizes
returns-in-Ok-put_inode-clause-resizes g c tells = record {
  root = c.cut_to.new.root;
  cut = c.cut_to.new.tx;
  width = c.resized-d.ensures.width;
  rest = c.resized-d.ensures.rest;
  cuts = rw (c.tail.ensures.count_of_blocks, c.tail.ensures.image tells, c.blocks_for.ensures, c.min-kept.ensures, c.get_array-root.ensures, c.new-tx.ensures) at (c.in-Ok-cut_to.ensures.cuts tells);
  tells = rw (c.tail.ensures.count_of_blocks, c.tail.ensures.image tells, c.new-tx.ensures) at (c.in-Ok-cut_to.ensures.edits tells);
  once = rw (c.tail.ensures.count_of_blocks, c.tail.ensures.image tells, c.blocks_for.ensures, c.min-kept.ensures, c.get_array-root.ensures, c.new-tx.ensures) at (c.in-Ok-cut_to.ensures.once tells);
  puts = rw (c.cut_to.ensures.count_of_blocks, c.cut_to.ensures.image tells, c.tail.ensures.count_of_blocks, c.tail.ensures.image tells, c.resized-d.ensures.value, c.own_after-own.ensures) at (c.in-Ok-put_inode.ensures.puts tells);
  lines = rw (c.cut_to.ensures.count_of_blocks, c.cut_to.ensures.image tells, c.tail.ensures.count_of_blocks, c.tail.ensures.image tells) at (c.in-Ok-put_inode.ensures.lines tells);
}
