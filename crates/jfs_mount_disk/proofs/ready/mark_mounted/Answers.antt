use Rattle.std.proofs.Common.{◌∙◌, ℕ, List, Err, ap, sym, subst, arith}
use Rattle.jfs_bits.specs.Piece.{puts}
use Rattle.jfs_disk.specs.Crash.{DiskState, AllSince}
use Rattle.jfs_disk.specs.Moment.{now_of}
use Rattle.jfs_disk.proofs.WriteThenSync.{resting-synced}
use Rattle.jfs_super.specs.Super.{pieces}
use Rattle.jfs_super.specs.declared.fields.TheConstants.VolumeState.{MOUNTED}
use Rattle.jfs_mount_disk.specs.Begun.{IsPartlyMarked}
use Rattle.jfs_mount_disk.proofs.Left.{not_memory}
use Rattle.jfs_mount_disk.proofs.Marking.{still_since, failed_since, written_since, synced_since, later_same, later_push, later_torn}
use Rattle.jfs_mount_disk.proofs.ready.mark_mounted.Goals as goal

pub returns-in-Ok-sync-clause-resting : goal.returns-in-Ok-sync-clause-resting
returns-in-Ok-sync-clause-resting g c = λ k. resting-synced (g.D.Disk.past c.write.new.self) (g.D.Disk.past c.sync.new.self) (c.in-Ok-sync.ensures.past k)

pub returns-in-Err-clause-moments : goal.returns-in-Err-clause-moments
returns-in-Err-clause-moments g c = λ t k rests.
    let laws = g.met.D.Disk in
    let low = c.args.low.now in
    still_since c.args.s.now (g.D.Disk.page_count low) (g.D.Disk.image low) (g.D.Disk.past low)
    (record { pages = laws.has_pages low t; now = laws.reads_now low k; crash = laws.reads_crash low k; state = laws.has_state low k }) rests (g.D.Disk.past c.read.new.self) (c.in-Err.ensures.past k)

pub returns-in-Err-write-clause-moments : goal.returns-in-Err-write-clause-moments
returns-in-Err-write-clause-moments g c = λ t k rests.
    let laws = g.met.D.Disk in
    let low = c.args.low.now in
    failed_since c.args.s.now (g.D.Disk.page_count low) (g.D.Disk.image low) (g.D.Disk.past low)
    (record { pages = laws.has_pages low t; now = laws.reads_now low k; crash = laws.reads_crash low k; state = laws.has_state low k }) rests
    c.requires.there c.write_super.new.page.0 c.bytes-bytes.ensures.size (c.write_super.ensures.bytes ∙ ap (λ (p : List ℕ). puts (pieces (record c.args.s.now { state = MOUNTED })) p) (c.in-Ok.ensures.bytes t))
    (g.D.Disk.past c.read.new.self) (c.in-Ok.ensures.past k) (g.D.Disk.past c.write.new.self) (c.in-Err-write.ensures.past_failed k)

pub returns-in-Err-sync-clause-moments : goal.returns-in-Err-sync-clause-moments
returns-in-Err-sync-clause-moments g c = λ t k rests.
    let laws = g.met.D.Disk in
    let low = c.args.low.now in
    subst (λ (states : List DiskState). AllSince (IsPartlyMarked c.args.s.now (g.D.Disk.image low)) states (now_of (g.D.Disk.past low))) (sym (c.in-Err-sync.ensures.past_failed k))
    (written_since c.args.s.now (g.D.Disk.page_count low) (g.D.Disk.image low) (g.D.Disk.past low)
    (record { pages = laws.has_pages low t; now = laws.reads_now low k; crash = laws.reads_crash low k; state = laws.has_state low k }) rests
    c.requires.there c.write_super.new.page.0 c.bytes-bytes.ensures.size (c.write_super.ensures.bytes ∙ ap (λ (p : List ℕ). puts (pieces (record c.args.s.now { state = MOUNTED })) p) (c.in-Ok.ensures.bytes t))
    (g.D.Disk.past c.read.new.self) (c.in-Ok.ensures.past k) (g.D.Disk.past c.write.new.self) (c.in-Ok-write.ensures.past k))

pub returns-in-Ok-sync-clause-moments : goal.returns-in-Ok-sync-clause-moments
returns-in-Ok-sync-clause-moments g c = λ t k rests.
    let laws = g.met.D.Disk in
    let low = c.args.low.now in
    synced_since c.args.s.now (g.D.Disk.page_count low) (g.D.Disk.image low) (g.D.Disk.past low)
    (record { pages = laws.has_pages low t; now = laws.reads_now low k; crash = laws.reads_crash low k; state = laws.has_state low k }) rests
    c.requires.there c.write_super.new.page.0 c.bytes-bytes.ensures.size (c.write_super.ensures.bytes ∙ ap (λ (p : List ℕ). puts (pieces (record c.args.s.now { state = MOUNTED })) p) (c.in-Ok.ensures.bytes t))
    (g.D.Disk.past c.read.new.self) (c.in-Ok.ensures.past k) (g.D.Disk.image c.write.new.self) (g.D.Disk.past c.write.new.self) (g.D.Disk.past c.sync.new.self) (c.in-Ok-write.ensures.past k)
    (laws.reads_crash c.write.new.self k) (laws.reads_now c.write.new.self k) (c.in-Ok-sync.ensures.past k)

pub returns-in-Err-clause-later : goal.returns-in-Err-clause-later
returns-in-Err-clause-later g c = λ k. later_same (g.D.Disk.past c.args.low.now) (g.D.Disk.past c.read.new.self) (c.in-Err.ensures.past k)

pub returns-in-Err-write-clause-later : goal.returns-in-Err-write-clause-later
returns-in-Err-write-clause-later g c = λ k.
    let one = later_same (g.D.Disk.past c.args.low.now) (g.D.Disk.past c.read.new.self) (c.in-Ok.ensures.past k) in
    let two = later_torn 8 c.write_super.new.page.0 (g.D.Disk.past c.read.new.self) (g.D.Disk.past c.write.new.self) (c.in-Err-write.ensures.past_failed k) in
    omega (arith, one, two)

pub returns-in-Err-sync-clause-later : goal.returns-in-Err-sync-clause-later
returns-in-Err-sync-clause-later g c = λ k.
    let one = later_same (g.D.Disk.past c.args.low.now) (g.D.Disk.past c.read.new.self) (c.in-Ok.ensures.past k) in
    let two = later_push (g.D.Disk.past c.read.new.self) (g.D.Disk.past c.write.new.self) _ (c.in-Ok-write.ensures.past k) in
    let three = later_same (g.D.Disk.past c.write.new.self) (g.D.Disk.past c.sync.new.self) (c.in-Err-sync.ensures.past_failed k) in
    omega (arith, one, two, three)

pub returns-in-Ok-sync-clause-later : goal.returns-in-Ok-sync-clause-later
returns-in-Ok-sync-clause-later g c = λ k.
    let one = later_same (g.D.Disk.past c.args.low.now) (g.D.Disk.past c.read.new.self) (c.in-Ok.ensures.past k) in
    let two = later_push (g.D.Disk.past c.read.new.self) (g.D.Disk.past c.write.new.self) _ (c.in-Ok-write.ensures.past k) in
    let three = later_push (g.D.Disk.past c.write.new.self) (g.D.Disk.past c.sync.new.self) _ (c.in-Ok-sync.ensures.past k) in
    omega (arith, one, two, three)

pub returns-in-Err-clause-still : goal.returns-in-Err-clause-still
returns-in-Err-clause-still g c = λ k memory. c.in-Err.ensures.past k

pub returns-in-Err-write-clause-still : goal.returns-in-Err-write-clause-still
returns-in-Err-write-clause-still g c = λ k memory. absurd (not_memory c.in-Err-write.e _ c.low_error-in-Err-write.result c.low_error-in-Err-write.ensures (λ is. c.write.ensures.no_memory (c.in-Err-write.is ∙ ap Err is)) memory)
