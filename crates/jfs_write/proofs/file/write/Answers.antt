use Rattle.jfs_disk.specs.Image.{page_of}
use Rattle.jfs_write.proofs.Calls.{steps, starts}
use Rattle.jfs_write.proofs.file.write.Goals as goal

pub returns-clause-steps : goal.returns-clause-steps
returns-clause-steps g c tells =
    let p = c.in-Ok.ensures.looks tells in
    steps (g.V.PageView.block_count c.args.view.now) (page_of (g.V.PageView.image c.args.view.now)) (g.met.V.PageView.has_pages c.args.view.now tells) c.args.blocks.now c.args.inodes.now c.in-Ok.at c.in-Ok.ensures.held (c.in-Ok.ensures.shown tells) c.args.path.now p.walks c.args.offset c.args.limit
    c.args.bytes.now c.args.now c.in-Ok.ensures.bytes p.walked p.allowed p.space c.write_at.new.blocks c.write_at.result
    (rw (c.look.ensures.count_of_blocks, c.look.ensures.image tells) at (c.write_at.ensures.made tells)) (rw (c.look.ensures.count_of_blocks, c.look.ensures.image tells) at (c.write_at.ensures.stopped tells)) c.write_at.ensures.whole

pub returns-clause-starts : goal.returns-clause-starts
returns-clause-starts g c tells =
    let p = c.in-Ok.ensures.looks tells in
    starts (g.V.PageView.block_count c.args.view.now) (page_of (g.V.PageView.image c.args.view.now)) (g.met.V.PageView.has_pages c.args.view.now tells) c.args.blocks.now c.args.inodes.now c.in-Ok.at c.in-Ok.ensures.held (c.in-Ok.ensures.shown tells) c.args.path.now p.walks c.args.offset c.args.limit
    c.args.bytes.now c.args.now c.in-Ok.ensures.bytes p.walked p.allowed p.space c.write_at.new.blocks c.write_at.result
    (rw (c.look.ensures.count_of_blocks, c.look.ensures.image tells) at (c.write_at.ensures.made tells)) c.write_at.ensures.whole
