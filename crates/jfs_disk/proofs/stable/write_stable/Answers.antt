use Rattle.std.proofs.Common.{◌∙◌}
use Rattle.jfs_disk.proofs.WriteThenSync.{all-failed, all-written, all-synced, stable-synced, past-synced, resting-synced}
use Rattle.jfs_disk.proofs.stable.write_stable.Goals as goal

pub returns-in_err-write-clause-any_moment : goal.returns-in_err-write-clause-any_moment
returns-in_err-write-clause-any_moment g c = λ t k rests.
    let laws = g.met.D.Disk in
    let old = c.args.disk.now in
    all-failed _ c.args.n c.args.page.now.0 _ (g.D.Disk.past old) (g.D.Disk.past c.write.new.self)
    (record { laws = record { pages = laws.has_pages old t; now = laws.reads_now old k; crash = laws.reads_crash old k; state = laws.has_state old k }; there = c.requires; size = c.bytes-bytes.ensures.size })
    (c.in_err-write.ensures.past_failed k) rests

pub returns-in_err-sync-clause-any_moment : goal.returns-in_err-sync-clause-any_moment
returns-in_err-sync-clause-any_moment g c = λ t k rests.
    let laws = g.met.D.Disk in
    let old = c.args.disk.now in
    all-written _ c.args.n c.args.page.now.0 _ (g.D.Disk.past old) (g.D.Disk.past c.sync.new.self)
    (record { laws = record { pages = laws.has_pages old t; now = laws.reads_now old k; crash = laws.reads_crash old k; state = laws.has_state old k }; there = c.requires; size = c.bytes-bytes.ensures.size })
    (c.in_err-sync.ensures.past_failed k ∙ c.in_ok-write.ensures.past k) rests

pub returns-clause-any_moment : goal.returns-clause-any_moment
returns-clause-any_moment g c = λ t k rests.
    let laws = g.met.D.Disk in
    let old = c.args.disk.now in
    let mid = c.write.new.self in
    all-synced _ c.args.n c.args.page.now.0 _ (g.D.Disk.image mid) (g.D.Disk.past old) (g.D.Disk.past mid) (g.D.Disk.past c.sync.new.self)
    (record { laws = record { pages = laws.has_pages old t; now = laws.reads_now old k; crash = laws.reads_crash old k; state = laws.has_state old k }; there = c.requires; size = c.bytes-bytes.ensures.size })
    (c.in_ok-write.ensures.past k) rests (laws.reads_crash mid k) (laws.reads_now mid k) (c.in_ok-sync.ensures.past k)

pub returns-clause-stable : goal.returns-clause-stable
returns-clause-stable g c = λ t k left crash.
    let laws = g.met.D.Disk in
    let mid = c.write.new.self in
    stable-synced (g.D.Disk.past mid) (g.D.Disk.past c.sync.new.self) (g.D.Disk.image mid) left (c.in_ok-sync.ensures.past k) (laws.reads_now mid k) crash
    ∙ c.in_ok-write.ensures.image t

pub returns-clause-past : goal.returns-clause-past
returns-clause-past g c = λ k.
    past-synced (g.D.Disk.past c.args.disk.now) (g.D.Disk.past c.write.new.self) (g.D.Disk.past c.sync.new.self) _ (c.in_ok-write.ensures.past k) (c.in_ok-sync.ensures.past k)

pub returns-clause-resting : goal.returns-clause-resting
returns-clause-resting g c = λ k. resting-synced (g.D.Disk.past c.write.new.self) (g.D.Disk.past c.sync.new.self) (c.in_ok-sync.ensures.past k)
