use Rattle.std.proofs.Common.{subst, arith}
use Rattle.jfs_disk.proofs.WriteThenSync.{resting-synced, synced-goes_on}
use Rattle.jfs_disk.specs.Image.{Image}
use Rattle.jfs_disk.specs.Crash.{IsCrashImage, last_of}
use Rattle.jfs_disk.specs.Moment.{now_of}
use Rattle.jfs_logpages.specs.Fresh.{IsPartlyFresh}
use Rattle.jfs_logpages.proofs.log_side.start.Goals as goal

pub returns-clause-resting : goal.returns-clause-resting
returns-clause-resting g c = λ k. resting-synced (g.D.Disk.past c.write_log.new.disk) (g.D.Disk.past c.sync.new.self) (c.in_ok-sync.ensures.past k)

pub returns-clause-moments : goal.returns-clause-moments
returns-clause-moments g c = λ t k rests.
    let laws = g.met.D.Disk in
    let before = c.args.part.now in
    let mid = c.write_log.new.disk in
    let seen = subst (λ (im : Image). IsCrashImage (last_of (g.D.Disk.past mid)) im) (laws.reads_now mid k) (laws.reads_crash mid k) in
    let longer = (c.write_log.ensures.past k).longer in
    synced-goes_on (IsPartlyFresh 0 c.args.pages c.args.uuid (g.D.Disk.image before)) (g.D.Disk.past mid) (g.D.Disk.past c.sync.new.self) (now_of (g.D.Disk.past before)) (laws.has_state mid k)
    (omega (arith, longer, laws.has_state before k)) seen (c.write_log.ensures.moments t k rests) (c.in_ok-sync.ensures.past k)
