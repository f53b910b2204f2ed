use Rattle.std.proofs.Common.{◌∙◌, ℕ, List, sym, ap, subst}
use Rattle.std.proofs.Math.ListN.{set}
use Rattle.jfs_disk.specs.Crash.{TearsPage}
use Rattle.jfs_disk.proofs.WriteThenSync.{resting-synced}
use Rattle.jfs_super.specs.Super.{super_of}
use Rattle.jfs_format.specs.Volume.{IsOnTheWay}
use Rattle.jfs_format.proofs.Written.{others-put}
use Rattle.jfs_format.proofs.Moments.{longer, since-failed, since-written, since-synced}
use Rattle.jfs_format.proofs.formatter.write_primary.Goals as goal

pub returns-clause-image : goal.returns-clause-image
returns-clause-image g c = λ t.
    c.in_ok-sync.ensures.image t ∙ c.in_ok-write.ensures.image t ∙ ap (λ (page : List ℕ). set (g.D.Disk.image c.args.disk.now) 8 page) c.fill_super.ensures.page

pub returns-in_err-write-clause-others : goal.returns-in_err-write-clause-others
returns-in_err-write-clause-others g c = λ t. others-put 8 (g.D.Disk.image c.args.disk.now) (g.D.Disk.image c.write.new.self) _ (c.in_err-write.ensures.image_failed t).2

pub returns-in_err-sync-clause-others : goal.returns-in_err-sync-clause-others
returns-in_err-sync-clause-others g c = λ t. others-put 8 (g.D.Disk.image c.args.disk.now) (g.D.Disk.image c.sync.new.self) c.fill_super.new.page.0 (c.in_err-sync.ensures.image t ∙ c.in_ok-write.ensures.image t)

pub returns-clause-others : goal.returns-clause-others
returns-clause-others g c = λ t. others-put 8 (g.D.Disk.image c.args.disk.now) (g.D.Disk.image c.sync.new.self) c.fill_super.new.page.0 (c.in_ok-sync.ensures.image t ∙ c.in_ok-write.ensures.image t)

pub returns-clause-stable : goal.returns-clause-stable
returns-clause-stable g c = λ k. resting-synced (g.D.Disk.past c.write.new.self) (g.D.Disk.past c.sync.new.self) (c.in_ok-sync.ensures.past k)

pub returns-in_err-write-clause-moments : goal.returns-in_err-write-clause-moments
returns-in_err-write-clause-moments g c = λ t k rests begun from before all each.
    let P = IsOnTheWay c.args.v begun in
    let laws = g.met.D.Disk in
    let old = c.args.disk.now in
    since-failed P _ 8 c.fill_super.new.page.0 (g.D.Disk.image old) (g.D.Disk.past old) (g.D.Disk.past c.write.new.self) from
    (record { laws = record { pages = laws.has_pages old t; now = laws.reads_now old k; crash = laws.reads_crash old k; state = laws.has_state old k }; there = c.requires.place; size = c.bytes-bytes.ensures.size })
    rests all (λ left tears. each left (subst (λ (b : List ℕ). TearsPage 8 b (g.D.Disk.image old) left) c.fill_super.ensures.page tears)) (c.in_err-write.ensures.past_failed k)

pub returns-in_err-sync-clause-moments : goal.returns-in_err-sync-clause-moments
returns-in_err-sync-clause-moments g c = λ t k rests begun from before all each.
    let P = IsOnTheWay c.args.v begun in
    let laws = g.met.D.Disk in
    let old = c.args.disk.now in
    since-written P _ 8 c.fill_super.new.page.0 (g.D.Disk.image old) (g.D.Disk.past old) (g.D.Disk.past c.sync.new.self) from
    (record { laws = record { pages = laws.has_pages old t; now = laws.reads_now old k; crash = laws.reads_crash old k; state = laws.has_state old k }; there = c.requires.place; size = c.bytes-bytes.ensures.size })
    rests all (λ left tears. each left (subst (λ (b : List ℕ). TearsPage 8 b (g.D.Disk.image old) left) c.fill_super.ensures.page tears)) (c.in_err-sync.ensures.past_failed k ∙ c.in_ok-write.ensures.past k)

pub returns-clause-moments : goal.returns-clause-moments
returns-clause-moments g c = λ t k rests begun from before all each.
    let P = IsOnTheWay c.args.v begun in
    let laws = g.met.D.Disk in
    let old = c.args.disk.now in
    let mid = c.write.new.self in
    since-synced P (g.D.Disk.image mid) (g.D.Disk.past mid) (g.D.Disk.past c.sync.new.self) from (laws.has_state mid k)
    (longer (g.D.Disk.past old) (g.D.Disk.past mid) _ from before (c.in_ok-write.ensures.past k)) (laws.reads_crash mid k) (laws.reads_now mid k)
    (since-written P _ 8 c.fill_super.new.page.0 (g.D.Disk.image old) (g.D.Disk.past old) (g.D.Disk.past mid) from
    (record { laws = record { pages = laws.has_pages old t; now = laws.reads_now old k; crash = laws.reads_crash old k; state = laws.has_state old k }; there = c.requires.place; size = c.bytes-bytes.ensures.size })
    rests all (λ left tears. each left (subst (λ (b : List ℕ). TearsPage 8 b (g.D.Disk.image old) left) c.fill_super.ensures.page tears)) (c.in_ok-write.ensures.past k))
    (c.in_ok-sync.ensures.past k)

pub returns-clause-reads : goal.returns-clause-reads
returns-clause-reads g c = ap super_of (sym c.fill_super.ensures.page) ∙ c.fill_super.ensures.reads
