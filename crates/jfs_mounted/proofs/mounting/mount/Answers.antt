use Rattle.std.proofs.Common.{◌≤◌, ◌-◌, ◌∙◌, ℕ, List, take, drop, sym, ap, subst, arith}
use Rattle.jfs_super.specs.Geometry.{geometry_of}
use Rattle.jfs_disk.specs.Image.{Image, page_of}
use Rattle.jfs_disk.specs.Crash.{DiskState, AllSince, last_of}
use Rattle.jfs_disk.specs.Moment.{IsResting, now_of}
use Rattle.jfs_super.specs.Super.{super_of}
use Rattle.jfs_super.specs.declared.fields.Geometry.{Geometry}
use Rattle.jfs_logpages.specs.Fresh.{IsPartlyFresh}
use Rattle.jfs_logpages.specs.declared.log_side.LogSide.{LogSide}
use Rattle.jfs_disk.proofs.Flow.{starts, crash-resting}
use Rattle.jfs_mount_disk.specs.Begun.{marked, IsPartlyMarked, LeavesLow, LeavesUntouched as OfBegin}
use Rattle.jfs_mount_disk.proofs.Left.{still_low}
use Rattle.jfs_volume.specs.Start.{StandsFresh}
use Rattle.jfs_mounted.specs.Mount.{LeavesLog, LeavesUntouched, WasCut}
use Rattle.jfs_mounted.specs.declared.mounted.MountError.{MountError}
use Rattle.jfs_mounted.proofs.Started.{files_of_low, still, log_fresh_of, keeps_with, before_left, before_untouched, before_cut, untouched_of}
use Rattle.jfs_mounted.proofs.mounting.mount.Goals as goal

pub returns-in-Err-clause-left_low : goal.returns-in-Err-clause-left_low
returns-in-Err-clause-left_low g c = λ t k rests left crash.
    let s = c.args.s.now in
    let old = g.D.Disk.image c.args.disk in
    let now = c.find_maps_on.new.disk in
    still_low s old left (ap (λ (im : Image). take s.logpxd.addr im)
    (still old (g.D.Disk.image now) (g.D.Disk.past c.args.disk) (g.D.Disk.past now) (c.in-Err.ensures.past k) rests (g.met.D.Disk.reads_now now k) (c.in-Err.ensures.image t) left crash))

pub returns-in-Err-clause-left_log : goal.returns-in-Err-clause-left_log
returns-in-Err-clause-left_log g c = λ t k rests left crash.
    let s = c.args.s.now in
    let old = g.D.Disk.image c.args.disk in
    let now = c.find_maps_on.new.disk in
    subst (λ (why : MountError). LeavesLog s old why left) (sym c.refusal_of.ensures)
    (before_left s old left (g.D.Disk.fault_count c.args.disk) (g.D.Disk.fault_count now) c.in-Err.why c.in-Err.ensures.fault
    (still old (g.D.Disk.image now) (g.D.Disk.past c.args.disk) (g.D.Disk.past now) (c.in-Err.ensures.past k) rests (g.met.D.Disk.reads_now now k) (c.in-Err.ensures.image t) left crash))

pub returns-in-Err-clause-left_high : goal.returns-in-Err-clause-left_high
returns-in-Err-clause-left_high g c = λ t k rests left crash.
    let s = c.args.s.now in
    let old = g.D.Disk.image c.args.disk in
    let now = c.find_maps_on.new.disk in
    subst (λ (why : MountError). LeavesUntouched s old why left) (sym c.refusal_of.ensures)
    (before_untouched s old left (g.D.Disk.fault_count c.args.disk) (g.D.Disk.fault_count now) c.in-Err.why c.in-Err.ensures.fault
    (still old (g.D.Disk.image now) (g.D.Disk.past c.args.disk) (g.D.Disk.past now) (c.in-Err.ensures.past k) rests (g.met.D.Disk.reads_now now k) (c.in-Err.ensures.image t) left crash))

pub returns-in-Err-clause-found : goal.returns-in-Err-clause-found
returns-in-Err-clause-found g c = λ t cut.
    absurd (before_cut (g.D.Disk.fault_count c.args.disk) (g.D.Disk.fault_count c.find_maps_on.new.disk) c.in-Err.why c.in-Err.ensures.fault (subst (λ (why : MountError). WasCut why) c.refusal_of.ensures cut))

pub returns-in-Err-begin-clause-found : goal.returns-in-Err-begin-clause-found
returns-in-Err-begin-clause-found g c = λ t cut. record { maps = c.in-Ok.maps; rest = c.in-Ok.ensures.rest; are = c.in-Ok.ensures.maps t }

pub returns-in-Err-begin-clause-left_high : goal.returns-in-Err-begin-clause-left_high
returns-in-Err-begin-clause-left_high g c = λ t k rests left crash.
    let s = c.args.s.now in
    let old = g.D.Disk.image c.args.disk in
    let now = c.find_maps_on.new.disk in
    subst (λ (why : MountError). LeavesUntouched s old why left) (sym c.failure_of.ensures)
    (untouched_of s old left c.in-Err-begin.not.why
    (subst (λ (im : Image). OfBegin s im c.in-Err-begin.not.why left) (c.in-Ok.ensures.image t)
    (c.in-Err-begin.ensures.left_high t k (subst (λ (states : List DiskState). IsResting (last_of states)) (sym (c.in-Ok.ensures.past k)) rests) left crash)))

pub returns-in-Ok-begin-clause-mounted : goal.returns-in-Ok-begin-clause-mounted
returns-in-Ok-begin-clause-mounted g c =
    let s = c.args.s.now in
    let old = g.D.Disk.image c.args.disk in
    let maps = c.in-Ok.maps in
    let begun = c.in-Ok-begin.begun in
    let ready = c.in-Ok-begin.ensures in
    let fresh = c.started.ensures.fresh in
    let pages = fresh.0 in
    let layout = c.geometry-ring.ensures.layout in
    let is_marked = λ (t : g.D.Disk.tells). fresh.1 t ∙ ready.low t ∙ ap (λ (im : Image). marked s (take s.logpxd.addr im)) (c.in-Ok.ensures.image t) in
    record {
      pages = pages;
      maps = maps;
      fresh = subst (λ (ring : ℕ). StandsFresh g.D.Disk.tells g.D.Disk.tells_crashes ring pages maps.blocks maps.inodes c.started.result.volume) (ap (λ (l : Geometry). l.log.len - 2) layout) fresh.2;
      log_fresh = λ seen asked told crashes. log_fresh_of g.D.Disk s c.find_maps_on.new.disk begun c.started.result.log seen asked pages maps.blocks maps.inodes c.started.ensures.log ready.parts
          (λ e. ready.holds (told e)) (λ e. ready.log_rests (crashes e));
      marked = is_marked;
      superblock = λ t. ap (λ (im : Image). super_of (page_of im 8)) (fresh.1 t) ∙ ready.superblock t;
      rest = c.in-Ok.ensures.rest;
      has_maps = c.started.ensures.parts;
      found = λ t. c.in-Ok.ensures.maps t;
      keeps = λ t consistent. keeps_with s old pages maps (subst (λ (l : Geometry). l.blocks ≤ l.log.addr) layout c.geometry-ring.ensures.bounds.behind) (is_marked t) (c.in-Ok.ensures.maps t) consistent;
    }

pub returns-in-Ok-begin-clause-low_moments : goal.returns-in-Ok-begin-clause-low_moments
returns-in-Ok-begin-clause-low_moments g c = λ t k rests.
    let s = c.args.s.now in
    let now = c.find_maps_on.new.disk in
    let low = c.in-Ok-begin.begun.low in
    let past = g.D.Disk.past c.args.disk in
    subst (λ (states : List DiskState). AllSince (IsPartlyMarked s (take s.logpxd.addr (g.D.Disk.image c.args.disk))) states (now_of past)) (sym c.started.ensures.low.0)
    (subst (λ (old : Image). AllSince (IsPartlyMarked s (take s.logpxd.addr old)) (g.D.Disk.past low) (now_of past)) (c.in-Ok.ensures.image t)
    (subst (λ (states : List DiskState). AllSince (IsPartlyMarked s (take s.logpxd.addr (g.D.Disk.image now))) (g.D.Disk.past low) (now_of states)) (c.in-Ok.ensures.past k)
    (c.in-Ok-begin.ensures.low_moments t k (subst (λ (states : List DiskState). IsResting (last_of states)) (sym (c.in-Ok.ensures.past k)) rests))))

pub returns-in-Ok-begin-clause-log_moments : goal.returns-in-Ok-begin-clause-log_moments
returns-in-Ok-begin-clause-log_moments g c = λ t k rests.
    let s = c.args.s.now in
    let now = c.find_maps_on.new.disk in
    let log = c.in-Ok-begin.begun.log in
    let past = g.D.Disk.past c.args.disk in
    subst (λ (l : LogSide g.row.D.Denot g.D.Disk). AllSince (IsPartlyFresh 0 s.logpxd.len s.uuid (drop s.logpxd.addr (g.D.Disk.image c.args.disk))) (g.D.Disk.past l.part) (now_of past)) (sym c.started.ensures.log)
    (subst (λ (old : Image). AllSince (IsPartlyFresh 0 s.logpxd.len s.uuid (drop s.logpxd.addr old)) (g.D.Disk.past log.part) (now_of past)) (c.in-Ok.ensures.image t)
    (subst (λ (states : List DiskState). AllSince (IsPartlyFresh 0 s.logpxd.len s.uuid (drop s.logpxd.addr (g.D.Disk.image now))) (g.D.Disk.past log.part) (now_of states)) (c.in-Ok.ensures.past k)
    (c.in-Ok-begin.ensures.log_moments t k (subst (λ (states : List DiskState). IsResting (last_of states)) (sym (c.in-Ok.ensures.past k)) rests))))

pub started-requires-clause-files : goal.started-requires-clause-files
started-requires-clause-files g c =
    let s = c.args.s.now in
    let rest = c.in-Ok.ensures.rest in
    files_of_low (c.in-Ok.maps) (geometry_of s) (g.D.Disk.page_count c.in-Ok-begin.begun.low) rest (let behind = subst (λ (l : Geometry). l.blocks ≤ l.log.addr) c.geometry-ring.ensures.layout c.geometry-ring.ensures.bounds.behind in omega (arith, behind, c.in-Ok-begin.ensures.parts.low_pages))

-- ---- what a crash leaves at each moment of a mount that failed

pub returns-in-Err-clause-moments : goal.returns-in-Err-clause-moments
returns-in-Err-clause-moments g c = λ t k rests.
    let s = c.args.s.now in
    let old = g.D.Disk.image c.args.disk in
    let past = g.D.Disk.past c.args.disk in
    subst (λ (states : List DiskState). AllSince (LeavesLow s old) states (now_of past)) (sym (c.in-Err.ensures.past k))
    (starts (LeavesLow s old) past (g.met.D.Disk.has_state c.args.disk k)
    (λ left crash. still_low s old left (ap (λ (im : Image). take s.logpxd.addr im) (crash-resting (last_of past) left rests crash ∙ sym (g.met.D.Disk.reads_now c.args.disk k)))))

pub returns-in-Err-begin-clause-moments : goal.returns-in-Err-begin-clause-moments
returns-in-Err-begin-clause-moments g c = λ t k rests.
    let s = c.args.s.now in
    subst {A = Image × List DiskState} (λ z. AllSince (LeavesLow s z.0) (g.D.Disk.past c.in-Err-begin.not.disk) (now_of z.1)) (λ i. (c.in-Ok.ensures.image t i, c.in-Ok.ensures.past k i))
    (c.in-Err-begin.ensures.moments t k (subst (λ (states : List DiskState). IsResting (last_of states)) (sym (c.in-Ok.ensures.past k)) rests))
