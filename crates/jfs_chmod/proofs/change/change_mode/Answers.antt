use Rattle.jfs_disk.specs.Image.{page_of}
use Rattle.jfs_chmod.proofs.Modes.{change_done}
use Rattle.jfs_chmod.proofs.change.change_mode.Goals as goal

pub returns-in-Ok-put_inode-clause-steps : goal.returns-in-Ok-put_inode-clause-steps
returns-in-Ok-put_inode-clause-steps g c tells within area bm con =
    change_done (g.V.PageView.block_count c.args.view.now) (page_of (g.V.PageView.image c.args.view.now)) c.args.inodes.now area bm con c.in-Ok.at c.in-Ok.ensures.held (c.in-Ok.ensures.shown tells)
    c.args.path.now (c.in-Ok.ensures.follows tells within area bm con) c.args.mode c.args.now c.requires.mode c.put_inode.new.tx
    (rw (c.walk.ensures.count_of_blocks, c.walk.ensures.image tells, c.with_mode-d.ensures, c.new-tx.ensures) at (c.in-Ok-put_inode.ensures.puts tells))
    (rw (c.walk.ensures.count_of_blocks, c.walk.ensures.image tells, c.new-tx.ensures) at (c.in-Ok-put_inode.ensures.lines tells))

pub returns-in-Ok-put_inode-clause-sets : goal.returns-in-Ok-put_inode-clause-sets
returns-in-Ok-put_inode-clause-sets g c tells = (
  c.in-Ok.at,
  c.in-Ok.ensures.meets tells,
  rw (c.walk.ensures.count_of_blocks, c.walk.ensures.image tells, c.with_mode-d.ensures, c.new-tx.ensures) at (c.in-Ok-put_inode.ensures.puts tells),
  rw (c.walk.ensures.count_of_blocks, c.walk.ensures.image tells, c.new-tx.ensures) at (c.in-Ok-put_inode.ensures.lines tells),
)
