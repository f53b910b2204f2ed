use Rattle.std.proofs.Common.{◌≡◌, ◌<◌, ◌≤◌, ◌+◌, ◌∙◌, ◌-◌, ◌^◌, ◌++◌, ℕ, List, Err, take, drop, length, min, inl, inr, sym, ap, subst, arith}
use Rattle.jfs_bits.specs.Count.{Rose}
use Rattle.jfs_bits.specs.declared.descriptor.Pxd.{Pxd}
use Rattle.jfs_disk.specs.Image.{Image, page_of}
use Rattle.jfs_disk.specs.Crash.{DiskState, AllSince, IsCrashImage, last_of, seen_of}
use Rattle.jfs_disk.specs.Cut.{joined}
use Rattle.jfs_disk.specs.Moment.{IsResting, now_of}
use Rattle.jfs_logpages.specs.Fresh.{IsFreshLog, IsPartlyFresh}
use Rattle.jfs_disk.specs.declared.disk.Fault.{Fault}
use Rattle.jfs_super.specs.declared.fields.Geometry.{Geometry}
use Rattle.jfs_mount_disk.specs.Begun.{IsCause, IsPartFault, IsPartlyMarked, LeavesLow, marked_page}
use Rattle.jfs_mount_disk.proofs.Parts.{pages_stay, part_cause, cause_stays, low_rests, high_rests, low_now, high_now}
use Rattle.jfs_mount_disk.proofs.Left.{still_low, whole_left, at_end, low_rested, high_rested, low_left, log_left, low_not_high}
use Rattle.jfs_disk.proofs.Flow.{starts, crash-resting}
use Rattle.jfs_disk.proofs.Outcomes.{tears_nothing}
use Rattle.jfs_mount_disk.proofs.Moments.{low_moments, torn_pages}
use Rattle.jfs_super.specs.declared.fields.Super.{Super}
use Rattle.jfs_mount_disk.proofs.ready.begin.Goals as goal

-- what is said of the log's place is said of the superblock's
outside_of : (n : ℕ) (log place : Pxd) → log ≡ place → (place.addr < n → n < place.addr + place.len → ⊥) → log.addr < n → n < log.addr + log.len → ⊥
outside_of n log place same outside a b = outside (subst (λ (p : Pxd). p.addr < n) same a) (subst (λ (p : Pxd). n < p.addr + p.len) same b)

pub returns-in-Err-fresh-clause-rest : goal.returns-in-Err-fresh-clause-rest
returns-in-Err-fresh-clause-rest g c = λ t n other outside.
    let log = c.geometry.result.log in
    let number = (g.met.D.Disk.has_pages c.args.disk t).number in
    let within = c.geometry.ensures.within (g.D.Disk.page_count c.args.disk) c.requires.accepted in
    let cut = c.in-Ok.ensures.image t in
    ap (λ (im : Image). page_of im n) (c.join.ensures.image t)
    ∙ pages_stay log.addr log.len (g.D.Disk.image c.args.disk) (g.D.Disk.image c.in-Ok.parts.0) (g.D.Disk.image c.in-Err-fresh.refused.part) (omega (arith, within, number))
    ((g.met.D.Disk.has_pages c.in-Ok.parts.0 t).number ∙ c.in-Ok.ensures.pages.0) (λ k _. ap (λ (im : Image). page_of im k) cut.0)
    (λ k out. c.in-Err-fresh.ensures.handed_back.1 t k out ∙ ap (λ (im : Image). page_of im k) cut.1) n other
    (outside_of n log c.args.s.now.logpxd (ap (λ (l : Geometry). l.log) c.geometry.ensures.layout) outside)

pub returns-in-Err-mark_mounted-clause-rest : goal.returns-in-Err-mark_mounted-clause-rest
returns-in-Err-mark_mounted-clause-rest g c = λ t n other outside.
    let log = c.geometry.result.log in
    let number = (g.met.D.Disk.has_pages c.args.disk t).number in
    let within = c.geometry.ensures.within (g.D.Disk.page_count c.args.disk) c.requires.accepted in
    let cut = c.in-Ok.ensures.image t in
    ap (λ (im : Image). page_of im n) (c.join-in-Err-mark_mounted.ensures.image t)
    ∙ pages_stay log.addr log.len (g.D.Disk.image c.args.disk) (g.D.Disk.image c.mark_mounted.new.low) (g.D.Disk.image c.into_part.result) (omega (arith, within, number))
    ((g.met.D.Disk.has_pages c.mark_mounted.new.low t).number ∙ c.in-Err-mark_mounted.ensures.pages ∙ c.in-Ok.ensures.pages.0)
    (λ k apart. c.in-Err-mark_mounted.ensures.marks t k apart ∙ ap (λ (im : Image). page_of im k) cut.0)
    (λ k out. ap (λ (p : g.row.D.Denot). page_of (g.D.Disk.image p) k) c.into_part.ensures ∙ c.in-Ok-fresh.ensures.others t k out ∙ ap (λ (im : Image). page_of im k) cut.1) n other
    (outside_of n log c.args.s.now.logpxd (ap (λ (l : Geometry). l.log) c.geometry.ensures.layout) outside)

pub returns-in-Err-mark_mounted-clause-cause : goal.returns-in-Err-mark_mounted-clause-cause
returns-in-Err-mark_mounted-clause-cause g c =
    let now = g.D.Disk.fault_count c.mark_mounted.new.low in
    subst (λ (n : ℕ). IsCause (g.D.Disk.fault_count c.args.disk) n c.in-Err-mark_mounted.why)
    (sym (c.join-in-Err-mark_mounted.ensures.faults ∙ ap (λ (p : g.row.D.Denot). min (now + g.D.Disk.fault_count p) (2 ^ 64 - 1)) c.into_part.ensures))
    (cause_stays (g.D.Disk.fault_count c.args.disk) (g.D.Disk.fault_count c.in-Ok.parts.0) (g.D.Disk.fault_count c.in-Ok-fresh.side.part) now c.in-Err-mark_mounted.why
    (omega (arith, c.in-Ok.ensures.faults, c.in-Ok-fresh.ensures.counts.2)) (omega (arith, c.faults-faults.ensures, c.faults-faults.auto)) c.in-Err-mark_mounted.ensures.cause)

pub returns-in-Ok-mark_mounted-clause-low_moments : goal.returns-in-Ok-mark_mounted-clause-low_moments
returns-in-Ok-mark_mounted-clause-low_moments g c = λ t k rests.
    let log = c.geometry.result.log in
    let past = g.D.Disk.past c.args.disk in
    let low = c.in-Ok.parts.0 in
    let is = (c.in-Ok.ensures.past k).0 in
    subst (λ (at : ℕ). AllSince (IsPartlyMarked c.args.s.now (take at (g.D.Disk.image c.args.disk))) (g.D.Disk.past c.mark_mounted.new.low) (now_of past)) (ap (λ (l : Geometry). l.log.addr) c.geometry.ensures.layout)
    (subst (λ (im : Image). AllSince (IsPartlyMarked c.args.s.now im) (g.D.Disk.past c.mark_mounted.new.low) (now_of past)) (c.in-Ok.ensures.image t).0
    (subst (λ (moment : ℕ). AllSince (IsPartlyMarked c.args.s.now (g.D.Disk.image low)) (g.D.Disk.past c.mark_mounted.new.low) moment) (low_now log.addr past (g.D.Disk.past low) is)
    (c.mark_mounted.ensures.moments t k (low_rests log.addr past (g.D.Disk.past low) (g.met.D.Disk.has_state c.args.disk k) is rests))))

pub returns-in-Ok-mark_mounted-clause-log_moments : goal.returns-in-Ok-mark_mounted-clause-log_moments
returns-in-Ok-mark_mounted-clause-log_moments g c = λ t k rests.
    let log = c.geometry.result.log in
    let past = g.D.Disk.past c.args.disk in
    let high = c.in-Ok.parts.1 in
    let is = (c.in-Ok.ensures.past k).1 in
    subst (λ (place : Pxd). AllSince (IsPartlyFresh 0 place.len c.args.s.now.uuid (drop place.addr (g.D.Disk.image c.args.disk))) (g.D.Disk.past c.in-Ok-fresh.side.part) (now_of past)) (ap (λ (l : Geometry). l.log) c.geometry.ensures.layout)
    (subst (λ (im : Image). AllSince (IsPartlyFresh 0 log.len c.args.s.now.uuid im) (g.D.Disk.past c.in-Ok-fresh.side.part) (now_of past)) (c.in-Ok.ensures.image t).1
    (subst (λ (moment : ℕ). AllSince (IsPartlyFresh 0 log.len c.args.s.now.uuid (g.D.Disk.image high)) (g.D.Disk.past c.in-Ok-fresh.side.part) moment) (high_now log.addr past (g.D.Disk.past high) is)
    (c.in-Ok-fresh.ensures.moments t k (high_rests log.addr past (g.D.Disk.past high) (g.met.D.Disk.has_state c.args.disk k) is rests))))

-- ---- what a crash leaves after a failed call

-- `P` of the log's place is said of the superblock's
place_of : (P : Pxd → Type 0) (log place : Pxd) → log ≡ place → P log → P place
place_of P log place same h = subst P same h

pub returns-in-Err-clause-left_low : goal.returns-in-Err-clause-left_low
returns-in-Err-clause-left_low g c = λ t k rests left crash.
    let s = c.args.s.now in
    let old = g.D.Disk.image c.args.disk in
    still_low s old left (ap (λ (im : Image). take s.logpxd.addr im) (whole_left old (g.D.Disk.image c.in-Err.disk) (g.D.Disk.past c.args.disk) (g.D.Disk.past c.in-Err.disk)
    (c.in-Err.ensures.same_past k) rests (g.met.D.Disk.reads_now c.in-Err.disk k) (c.in-Err.ensures.same_image t) left crash))

pub returns-in-Err-clause-left_log : goal.returns-in-Err-clause-left_log
returns-in-Err-clause-left_log g c = λ t k rests left crash.
    let s = c.args.s.now in
    let old = g.D.Disk.image c.args.disk in
    inl (ap (λ (im : Image). drop s.logpxd.addr im) (whole_left old (g.D.Disk.image c.in-Err.disk) (g.D.Disk.past c.args.disk) (g.D.Disk.past c.in-Err.disk)
    (c.in-Err.ensures.same_past k) rests (g.met.D.Disk.reads_now c.in-Err.disk k) (c.in-Err.ensures.same_image t) left crash))

pub returns-in-Err-clause-left_high : goal.returns-in-Err-clause-left_high
returns-in-Err-clause-left_high g c = λ t k rests left crash.
    let s = c.args.s.now in
    let old = g.D.Disk.image c.args.disk in
    ap (λ (im : Image). take s.logpxd.addr im) (whole_left old (g.D.Disk.image c.in-Err.disk) (g.D.Disk.past c.args.disk) (g.D.Disk.past c.in-Err.disk)
    (c.in-Err.ensures.same_past k) rests (g.met.D.Disk.reads_now c.in-Err.disk k) (c.in-Err.ensures.same_image t) left crash)

pub returns-in-Err-fresh-clause-left_low : goal.returns-in-Err-fresh-clause-left_low
returns-in-Err-fresh-clause-left_low g c = λ t k rests left crash.
    let s = c.args.s.now in
    let old = g.D.Disk.image c.args.disk in
    let log = c.geometry.result.log in
    let low = c.in-Ok.parts.0 in
    let high = c.in-Err-fresh.refused.part in
    let low_past = g.D.Disk.past low in
    let is = (c.in-Ok.ensures.past k).0 in
    let resting = low_rests log.addr (g.D.Disk.past c.args.disk) low_past (g.met.D.Disk.has_state c.args.disk k) is rests in
    let stays : take log.addr left ≡ take log.addr old = low_rested log.addr (g.D.Disk.image low) (last_of (g.D.Disk.past c.join.result)) low_past (g.D.Disk.past high) left (c.join.ensures.state k)
    (g.met.D.Disk.reads_now low k) ((g.met.D.Disk.has_pages low t).number ∙ c.in-Ok.ensures.pages.0) crash resting ∙ (c.in-Ok.ensures.image t).0 in
    still_low s old left (place_of (λ (p : Pxd). take p.addr left ≡ take p.addr old) log s.logpxd (ap (λ (l : Geometry). l.log) c.geometry.ensures.layout) stays)

pub returns-in-Err-fresh-clause-left_high : goal.returns-in-Err-fresh-clause-left_high
returns-in-Err-fresh-clause-left_high g c = λ t k rests left crash high.
    let s = c.args.s.now in
    let old = g.D.Disk.image c.args.disk in
    let log = c.geometry.result.log in
    let low = c.in-Ok.parts.0 in
    let low_past = g.D.Disk.past low in
    let is = (c.in-Ok.ensures.past k).0 in
    let resting = low_rests log.addr (g.D.Disk.past c.args.disk) low_past (g.met.D.Disk.has_state c.args.disk k) is rests in
    let stays : take log.addr left ≡ take log.addr old = low_rested log.addr (g.D.Disk.image low) (last_of (g.D.Disk.past c.join.result)) low_past (g.D.Disk.past c.in-Err-fresh.refused.part) left (c.join.ensures.state k)
    (g.met.D.Disk.reads_now low k) ((g.met.D.Disk.has_pages low t).number ∙ c.in-Ok.ensures.pages.0) crash resting ∙ (c.in-Ok.ensures.image t).0 in
    place_of (λ (p : Pxd). take p.addr left ≡ take p.addr old) log s.logpxd (ap (λ (l : Geometry). l.log) c.geometry.ensures.layout) stays

pub returns-in-Err-fresh-clause-left_log : goal.returns-in-Err-fresh-clause-left_log
returns-in-Err-fresh-clause-left_log g c = λ t k rests left crash low. absurd (cc (low, ap (λ (f : Fault). f.part) c.in-Err-fresh.ensures.cause.1))

pub returns-in-Err-fresh-clause-cause : goal.returns-in-Err-fresh-clause-cause
returns-in-Err-fresh-clause-cause g c =
    let cause = c.in-Err-fresh.ensures.cause in
    let low = g.D.Disk.fault_count c.in-Ok.parts.0 in
    let now = g.D.Disk.fault_count c.in-Err-fresh.refused.part in
    subst (λ (n : ℕ). Rose (g.D.Disk.fault_count c.args.disk) n × IsPartFault (g.D.Disk.fault_count c.args.disk) n c.in-Err-fresh.refused.why.fault)
    (sym (c.join.ensures.faults ∙ omega arith))
    (part_cause (g.D.Disk.fault_count c.args.disk) (g.D.Disk.fault_count c.in-Ok.parts.1) low now c.in-Err-fresh.refused.why.fault
    (omega (arith, c.in-Ok.ensures.faults)) (omega (arith, c.faults-faults.ensures, c.faults-faults.auto)) (inr (ap (λ (f : Fault). f.part) cause.1)) cause.0 (ap (λ (f : Fault). f.count) cause.1))

pub returns-in-Err-mark_mounted-clause-left_low : goal.returns-in-Err-mark_mounted-clause-left_low
returns-in-Err-mark_mounted-clause-left_low g c = λ t k rests left crash.
    let s = c.args.s.now in
    let old = g.D.Disk.image c.args.disk in
    let log = c.geometry.result.log in
    let low = c.in-Ok.parts.0 in
    let now = c.mark_mounted.new.low in
    let low_past = g.D.Disk.past low in
    let is = (c.in-Ok.ensures.past k).0 in
    let resting = low_rests log.addr (g.D.Disk.past c.args.disk) low_past (g.met.D.Disk.has_state c.args.disk k) is rests in
    let since = c.mark_mounted.ensures.moments t k resting in
    let all = at_end (IsPartlyMarked s (g.D.Disk.image low)) (g.D.Disk.past now) (now_of low_past) (g.met.D.Disk.has_state now k) (c.mark_mounted.ensures.later k) since in
    let leaves : IsPartlyMarked s (take log.addr old) (take log.addr left) = subst (λ (im : Image). IsPartlyMarked s im (take log.addr left)) (c.in-Ok.ensures.image t).0
    (low_left log.addr (g.D.Disk.image now) (last_of (g.D.Disk.past c.join-in-Err-mark_mounted.result)) (g.D.Disk.past now) (g.D.Disk.past c.into_part.result) left (c.join-in-Err-mark_mounted.ensures.state k)
    (g.met.D.Disk.reads_now now k) ((g.met.D.Disk.has_pages now t).number ∙ c.in-Err-mark_mounted.ensures.pages ∙ c.in-Ok.ensures.pages.0) crash (IsPartlyMarked s (g.D.Disk.image low)) all) in
    place_of (λ (p : Pxd). IsPartlyMarked s (take p.addr old) (take p.addr left)) log s.logpxd (ap (λ (l : Geometry). l.log) c.geometry.ensures.layout) leaves

pub returns-in-Err-mark_mounted-clause-left_log : goal.returns-in-Err-mark_mounted-clause-left_log
returns-in-Err-mark_mounted-clause-left_log g c = λ t k rests left crash.
    let s = c.args.s.now in
    let old = g.D.Disk.image c.args.disk in
    let log = c.geometry.result.log in
    let now = c.mark_mounted.new.low in
    let side = c.in-Ok-fresh.side.part in
    let stays : drop log.addr left ≡ g.D.Disk.image side = high_rested log.addr (g.D.Disk.image now) (last_of (g.D.Disk.past c.join-in-Err-mark_mounted.result)) (g.D.Disk.past now) (g.D.Disk.past side) left
    (c.join-in-Err-mark_mounted.ensures.state k ∙ ap (λ (p : g.row.D.Denot). last_of (g.D.Disk.past now) ++ last_of (g.D.Disk.past p)) c.into_part.ensures)
    (g.met.D.Disk.reads_now now k) ((g.met.D.Disk.has_pages now t).number ∙ c.in-Err-mark_mounted.ensures.pages ∙ c.in-Ok.ensures.pages.0) crash
    (g.D.Disk.image side) (g.met.D.Disk.reads_now side k) (c.in-Ok-fresh.ensures.resting k) in
    log_left s old left c.in-Err-mark_mounted.why
    (place_of (λ (p : Pxd). IsFreshLog p.len s.uuid (drop p.addr left)) log s.logpxd (ap (λ (l : Geometry). l.log) c.geometry.ensures.layout)
    (subst (λ (im : Image). IsFreshLog log.len s.uuid im) (sym stays) (c.in-Ok-fresh.ensures.image t)))

pub returns-in-Err-mark_mounted-clause-left_high : goal.returns-in-Err-mark_mounted-clause-left_high
returns-in-Err-mark_mounted-clause-left_high g c = λ t k rests left crash.
    let s = c.args.s.now in
    let old = g.D.Disk.image c.args.disk in
    let log = c.geometry.result.log in
    let low = c.in-Ok.parts.0 in
    let now = c.mark_mounted.new.low in
    let low_past = g.D.Disk.past low in
    let is = (c.in-Ok.ensures.past k).0 in
    let resting = low_rests log.addr (g.D.Disk.past c.args.disk) low_past (g.met.D.Disk.has_state c.args.disk k) is rests in
    low_not_high s old left (g.D.Disk.fault_count low) (g.D.Disk.fault_count now) c.in-Err-mark_mounted.why c.in-Err-mark_mounted.ensures.cause (λ memory.
    let same : g.D.Disk.past now ≡ low_past = c.mark_mounted.ensures.still k (c.in-Err-mark_mounted.is ∙ ap Err memory) in
    let stays : take log.addr left ≡ take log.addr old = low_rested log.addr (g.D.Disk.image now) (last_of (g.D.Disk.past c.join-in-Err-mark_mounted.result)) (g.D.Disk.past now) (g.D.Disk.past c.into_part.result) left (c.join-in-Err-mark_mounted.ensures.state k)
    (g.met.D.Disk.reads_now now k) ((g.met.D.Disk.has_pages now t).number ∙ c.in-Err-mark_mounted.ensures.pages ∙ c.in-Ok.ensures.pages.0) crash (subst (λ (past : List DiskState). IsResting (last_of past)) (sym same) resting)
    ∙ (g.met.D.Disk.reads_now now k ∙ ap (λ (past : List DiskState). seen_of (last_of past)) same ∙ sym (g.met.D.Disk.reads_now low k) ∙ (c.in-Ok.ensures.image t).0) in
    place_of (λ (p : Pxd). take p.addr left ≡ take p.addr old) log s.logpxd (ap (λ (l : Geometry). l.log) c.geometry.ensures.layout) stays)

-- ---- what it leaves at each moment

pub returns-in-Err-clause-moments : goal.returns-in-Err-clause-moments
returns-in-Err-clause-moments g c = λ t k rests.
    let s = c.args.s.now in
    let old = g.D.Disk.image c.args.disk in
    let past = g.D.Disk.past c.args.disk in
    subst (λ (states : List DiskState). AllSince (LeavesLow s old) states (now_of past)) (sym (c.in-Err.ensures.same_past k))
    (starts (LeavesLow s old) past (g.met.D.Disk.has_state c.args.disk k)
    (λ left crash. still_low s old left (ap (λ (im : Image). take s.logpxd.addr im) (crash-resting (last_of past) left rests crash ∙ sym (g.met.D.Disk.reads_now c.args.disk k)))))

-- A low part of the disk at whose moments a crash leaves no more than page 8 torn, joined to a high part: so it is of the disk.
moments_of : (s : Super) (old low : Image) (log : Pxd) (past mine other joint : List DiskState) (cut : ℕ) → log ≡ s.logpxd → low ≡ take log.addr old → length low ≡ log.addr → 0 < length mine → cut ≡ now_of past → cut ≤ now_of mine
    → joint ≡ joined mine other → AllSince (IsPartlyMarked s low) mine cut → AllSince (LeavesLow s old) joint (now_of past)
moments_of s old low log past mine other joint cut place front size some same later is own =
    let all : AllSince (λ left. IsPartlyMarked s low (take log.addr left)) (joined mine other) cut = low_moments mine other (IsPartlyMarked s low) log.addr cut (λ left tears. torn_pages 8 log.addr (marked_page s (page_of low 8)) low left size tears) some later own in
    subst (λ (states : List DiskState). AllSince (LeavesLow s old) states (now_of past)) (sym is)
    (subst (λ (moment : ℕ). AllSince (LeavesLow s old) (joined mine other) moment) same
    (place_of (λ (p : Pxd). AllSince (λ left. IsPartlyMarked s (take p.addr old) (take p.addr left)) (joined mine other) cut) log s.logpxd place
    (subst (λ (im : Image). AllSince (λ left. IsPartlyMarked s im (take log.addr left)) (joined mine other) cut) front all)))

pub returns-in-Err-fresh-clause-moments : goal.returns-in-Err-fresh-clause-moments
returns-in-Err-fresh-clause-moments g c = λ t k rests.
    let s = c.args.s.now in
    let old = g.D.Disk.image c.args.disk in
    let past = g.D.Disk.past c.args.disk in
    let log = c.geometry.result.log in
    let low = c.in-Ok.parts.0 in
    let high = c.in-Err-fresh.refused.part in
    let low_past = g.D.Disk.past low in
    let is = (c.in-Ok.ensures.past k).0 in
    let resting = low_rests log.addr past low_past (g.met.D.Disk.has_state c.args.disk k) is rests in
    let size = (g.met.D.Disk.has_pages low t).number ∙ c.in-Ok.ensures.pages.0 in
    let marks = marked_page s (page_of (g.D.Disk.image low) 8) in
    let own : AllSince (IsPartlyMarked s (g.D.Disk.image low)) low_past (now_of low_past) = starts (IsPartlyMarked s (g.D.Disk.image low)) low_past (g.met.D.Disk.has_state low k)
    (λ left crash. tears_nothing 8 marks (g.D.Disk.image low) left (crash-resting (last_of low_past) left resting crash ∙ sym (g.met.D.Disk.reads_now low k))) in
    moments_of s old (g.D.Disk.image low) log past low_past (g.D.Disk.past high) (g.D.Disk.past c.join.result) (now_of low_past) (ap (λ (l : Geometry). l.log) c.geometry.ensures.layout) (c.in-Ok.ensures.image t).0 size (g.met.D.Disk.has_state low k) (low_now log.addr past low_past is) (omega arith) (c.join.ensures.past k) own

pub returns-in-Err-mark_mounted-clause-moments : goal.returns-in-Err-mark_mounted-clause-moments
returns-in-Err-mark_mounted-clause-moments g c = λ t k rests.
    let s = c.args.s.now in
    let old = g.D.Disk.image c.args.disk in
    let past = g.D.Disk.past c.args.disk in
    let log = c.geometry.result.log in
    let low = c.in-Ok.parts.0 in
    let now = c.mark_mounted.new.low in
    let low_past = g.D.Disk.past low in
    let is = (c.in-Ok.ensures.past k).0 in
    let resting = low_rests log.addr past low_past (g.met.D.Disk.has_state c.args.disk k) is rests in
    let size = (g.met.D.Disk.has_pages low t).number ∙ c.in-Ok.ensures.pages.0 in
    moments_of s old (g.D.Disk.image low) log past (g.D.Disk.past now) (g.D.Disk.past c.into_part.result) (g.D.Disk.past c.join-in-Err-mark_mounted.result) (now_of low_past) (ap (λ (l : Geometry). l.log) c.geometry.ensures.layout) (c.in-Ok.ensures.image t).0 size (g.met.D.Disk.has_state now k)
    (low_now log.addr past low_past is) (c.mark_mounted.ensures.later k) (c.join-in-Err-mark_mounted.ensures.past k) (c.mark_mounted.ensures.moments t k resting)
