use Rattle.jfs_disk.specs.Image.{page_of}
use Rattle.jfs_truncate.proofs.Refused.{none_taken, steps_none, steps, starts, once}
use Rattle.jfs_truncate.proofs.file.truncate.Goals as goal

pub returns-in-Ok-check_size-clause-takes : goal.returns-in-Ok-check_size-clause-takes
returns-in-Ok-check_size-clause-takes g c tells =
    none_taken (g.V.PageView.block_count c.args.view.now) (page_of (g.V.PageView.image c.args.view.now)) c.in-Ok.at c.args.size c.args.now c.resize.result
    (rw (c.walk.ensures.count_of_blocks, c.walk.ensures.image tells) at (c.resize.ensures.resizes tells))

pub returns-in-Ok-check_size-clause-steps : goal.returns-in-Ok-check_size-clause-steps
returns-in-Ok-check_size-clause-steps g c tells room same =
    steps (g.V.PageView.block_count c.args.view.now) (page_of (g.V.PageView.image c.args.view.now)) (g.met.V.PageView.has_pages c.args.view.now tells) c.args.inodes.now c.in-Ok.at c.in-Ok.ensures.held (c.in-Ok.ensures.shown tells)
    c.args.path.now (c.in-Ok.ensures.follows tells) c.args.size c.args.limit c.args.now c.in-Ok-check_size.ensures room same c.resize.result
    (rw (c.walk.ensures.count_of_blocks, c.walk.ensures.image tells) at (c.resize.ensures.meets tells))
    (rw (c.walk.ensures.count_of_blocks, c.walk.ensures.image tells) at (c.resize.ensures.resizes tells))
    (rw (c.walk.ensures.count_of_blocks, c.walk.ensures.image tells) at (c.resize.ensures.tail tells)) c.resize.ensures.whole

pub returns-in-Ok-check_size-clause-starts : goal.returns-in-Ok-check_size-clause-starts
returns-in-Ok-check_size-clause-starts g c tells =
    starts (g.V.PageView.block_count c.args.view.now) (page_of (g.V.PageView.image c.args.view.now)) (g.met.V.PageView.has_pages c.args.view.now tells) c.args.inodes.now c.in-Ok.at c.in-Ok.ensures.held (c.in-Ok.ensures.shown tells)
    c.args.path.now (c.in-Ok.ensures.follows tells) c.args.size c.args.limit c.args.now c.in-Ok-check_size.ensures c.resize.result
    (rw (c.walk.ensures.count_of_blocks, c.walk.ensures.image tells) at (c.resize.ensures.resizes tells))
    (rw (c.walk.ensures.count_of_blocks, c.walk.ensures.image tells) at (c.resize.ensures.tail tells)) c.resize.ensures.whole

pub returns-in-Ok-check_size-clause-once : goal.returns-in-Ok-check_size-clause-once
returns-in-Ok-check_size-clause-once g c tells =
    once (g.V.PageView.block_count c.args.view.now) (page_of (g.V.PageView.image c.args.view.now)) (g.met.V.PageView.has_pages c.args.view.now tells) c.args.inodes.now c.in-Ok.at c.in-Ok.ensures.held (c.in-Ok.ensures.shown tells)
    c.args.path.now (c.in-Ok.ensures.follows tells) c.args.size c.args.limit c.args.now c.in-Ok-check_size.ensures c.resize.result
    (rw (c.walk.ensures.count_of_blocks, c.walk.ensures.image tells) at (c.resize.ensures.resizes tells))

pub returns-in-Err-check_size-clause-steps : goal.returns-in-Err-check_size-clause-steps
returns-in-Err-check_size-clause-steps g c tells room same =
    steps_none (g.V.PageView.block_count c.args.view.now) (page_of (g.V.PageView.image c.args.view.now)) (g.met.V.PageView.has_pages c.args.view.now tells) c.args.inodes.now c.in-Ok.at c.in-Ok.ensures.held (c.in-Ok.ensures.shown tells)
    c.args.path.now (c.in-Ok.ensures.follows tells) c.args.size c.args.limit c.args.now room same c.in-Err-check_size.e c.in-Err-check_size.ensures
