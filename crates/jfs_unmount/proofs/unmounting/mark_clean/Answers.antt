use Rattle.std.proofs.Common.{◌∙◌, List, subst, sym}
use Rattle.jfs_disk.specs.Crash.{DiskState, AllSince, TearsPage}
use Rattle.jfs_disk.specs.Moment.{now_of}
use Rattle.jfs_disk.proofs.WriteThenSync.{all-failed, all-written, all-synced, resting-synced}
use Rattle.jfs_unmount.proofs.Marking.{tears_all}
use Rattle.jfs_unmount.proofs.unmounting.mark_clean.Goals as goal

pub returns-in-Ok-sync-clause-resting : goal.returns-in-Ok-sync-clause-resting
returns-in-Ok-sync-clause-resting g c = λ k. resting-synced (g.D.Disk.past c.write.new.self) (g.D.Disk.past c.sync.new.self) (c.in-Ok-sync.ensures.past k)

pub returns-in-Err-sync-clause-marks : goal.returns-in-Err-sync-clause-marks
returns-in-Err-sync-clause-marks g c = λ t.
    let low = c.args.low.now in
    tears_all (g.D.Disk.page_count low) 8 c.args.superblock.now.0 (g.D.Disk.image low) (g.D.Disk.image c.sync.new.self) (g.met.D.Disk.has_pages low t) c.requires.there c.bytes-bytes.ensures.size
    (c.in-Err-sync.ensures.image t ∙ c.in-Ok.ensures.image t)

pub returns-in-Err-clause-moments : goal.returns-in-Err-clause-moments
returns-in-Err-clause-moments g c = λ t k rests.
    let laws = g.met.D.Disk in
    let low = c.args.low.now in
    all-failed (g.D.Disk.page_count low) 8 c.args.superblock.now.0 (g.D.Disk.image low) (g.D.Disk.past low) (g.D.Disk.past c.write.new.self)
    (record { laws = record { pages = laws.has_pages low t; now = laws.reads_now low k; crash = laws.reads_crash low k; state = laws.has_state low k }; there = c.requires.there; size = c.bytes-bytes.ensures.size })
    (c.in-Err.ensures.past_failed k) rests

pub returns-in-Err-sync-clause-moments : goal.returns-in-Err-sync-clause-moments
returns-in-Err-sync-clause-moments g c = λ t k rests.
    let laws = g.met.D.Disk in
    let low = c.args.low.now in
    subst (λ (states : List DiskState). AllSince (TearsPage 8 c.args.superblock.now.0 (g.D.Disk.image low)) states (now_of (g.D.Disk.past low))) (sym (c.in-Err-sync.ensures.past_failed k))
    (all-written (g.D.Disk.page_count low) 8 c.args.superblock.now.0 (g.D.Disk.image low) (g.D.Disk.past low) (g.D.Disk.past c.write.new.self)
    (record { laws = record { pages = laws.has_pages low t; now = laws.reads_now low k; crash = laws.reads_crash low k; state = laws.has_state low k }; there = c.requires.there; size = c.bytes-bytes.ensures.size })
    (c.in-Ok.ensures.past k) rests)

pub returns-in-Ok-sync-clause-moments : goal.returns-in-Ok-sync-clause-moments
returns-in-Ok-sync-clause-moments g c = λ t k rests.
    let laws = g.met.D.Disk in
    let low = c.args.low.now in
    all-synced (g.D.Disk.page_count low) 8 c.args.superblock.now.0 (g.D.Disk.image low) (g.D.Disk.image c.write.new.self) (g.D.Disk.past low) (g.D.Disk.past c.write.new.self) (g.D.Disk.past c.sync.new.self)
    (record { laws = record { pages = laws.has_pages low t; now = laws.reads_now low k; crash = laws.reads_crash low k; state = laws.has_state low k }; there = c.requires.there; size = c.bytes-bytes.ensures.size })
    (c.in-Ok.ensures.past k) rests (laws.reads_crash c.write.new.self k) (laws.reads_now c.write.new.self k) (c.in-Ok-sync.ensures.past k)
