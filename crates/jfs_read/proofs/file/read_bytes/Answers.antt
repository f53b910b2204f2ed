use Rattle.jfs_disk.specs.Image.{page_of}
use Rattle.jfs_read.proofs.Follow.{bytes_follow}
use Rattle.jfs_read.proofs.file.read_bytes.Goals as goal

pub returns-in-Ok-clause-follows : goal.returns-in-Ok-clause-follows
returns-in-Ok-clause-follows g c tells within area bm con =
    bytes_follow (g.V.PageView.block_count c.args.view.now) (page_of (g.V.PageView.image c.args.view.now)) c.args.inodes.now area bm con c.in-Ok.at c.in-Ok.ensures.held (c.in-Ok.ensures.shown tells) c.bytes_in.ensures.width
    c.args.offset c.args.count c.args.path.now (c.in-Ok.ensures.follows tells within area bm con) c.bytes_in.result (rw (c.walk.ensures.count_of_blocks, c.walk.ensures.image tells) at (c.bytes_in.ensures.meets tells))
    (rw (c.walk.ensures.count_of_blocks, c.walk.ensures.image tells) at (c.bytes_in.ensures.sound tells))
