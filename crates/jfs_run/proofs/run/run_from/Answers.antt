use Rattle.std.proofs.Common.{◌≡◌, ◌∙◌, ℕ, List, sym, subst, ap}
use Rattle.std.specs.Prelude.{None}
use Rattle.jfs_disk.specs.Crash.{DiskState, Leaves, last_of}
use Rattle.jfs_disk.specs.Moment.{IsResting}
use Rattle.jfs_disk.specs.Image.{Image, page_of}
use Rattle.jfs_super.specs.Super.{super_of}
use Rattle.jfs_super.specs.declared.fields.Super.{Super}
use Rattle.jfs_super.specs.declared.fields.TheConstants.VolumeState.{CLEAN}
use Rattle.jfs_mount.specs.Subject.{subject_of}
use Rattle.jfs_mount.specs.Mount.{broken_mount}
use Rattle.jfs_mount.specs.meaning.specs.Image.{IsConsistentImage}
use Rattle.jfs_server.specs.shared.specs.legal.specs.served.specs.volume_calls.specs.Together.{log_parts}
use Rattle.jfs_server.specs.shared.specs.kept_history.specs.Keepable.{IsKeepableImage}
use Rattle.jfs_server.specs.shared.specs.kept_history.specs.mounted_maps.specs.Keepable.{IsKeepable}
use Rattle.jfs_server.specs.shared.specs.legal.specs.served.specs.mounted.specs.Mount.{IsMountCause, IsRefusal, FoundOn}
use Rattle.jfs_run.specs.Calls.{Calls}
use Rattle.jfs_run.specs.Ending.{RunSince}
use Rattle.jfs_run.specs.Left.{LeavesRun, IsLeftNeverMounted}
use Rattle.jfs_run.specs.Legal.{IsLegalRun, LeavesImage}
use Rattle.jfs_run.specs.Run.{seen, StayBeside}
use Rattle.jfs_run.specs.Tasks.{plan_of}
use Rattle.jfs_run.proofs.Begun.{has_superblock, superblock_below, just_mounted, clean_is}
use Rattle.jfs_run.proofs.Finished.{ran, unmounted}
use Rattle.jfs_run.proofs.NeverMounted.{LeavesMounts, mounted_anyway, refused_mount, taken_nothing, not_done}
use Rattle.jfs_run.proofs.run.run_from.Given.{Over}
use Rattle.jfs_run.proofs.run.run_from.Goals as goal

pub take-requires-clause-there : goal.take-requires-clause-there
take-requires-clause-there g c = has_superblock c.args.s.now (g.D.Disk.page_count c.args.disk) c.requires.accepted

pub run_mounted-requires-clause-mounted : goal.run_mounted-requires-clause-mounted
run_mounted-requires-clause-mounted g c κs within =
    let d = g.D.Disk in
    let s = c.args.s.now in
    let e = c.in-Ok-mount.ensures in
    just_mounted s (d.page_count c.args.disk) c.requires.accepted d.tells d.tells_crashes (d.image c.take.new.disk) g.I.MountedFrom.image g.I.MountedFrom.block c.in-Ok-mount.m.volume (log_parts d c.in-Ok-mount.m.log) e.mounted
    (λ t. c.in-Ok.ensures.image t ∙ sym c.requires.image.0) c.requires.image.1 (λ t. ap (λ (im : Image). super_of (page_of im 8)) c.requires.image.0 ∙ c.requires.spelled t) e.parts.0 e.running.0
    (record { ring = e.together.0; place = e.together.1; durable = e.together.2; running = e.together.3 }) e.log

pub run_mounted-requires-clause-there : goal.run_mounted-requires-clause-there
run_mounted-requires-clause-there g c κs within = superblock_below c.args.s.now (g.D.Disk.page_count c.args.disk) c.requires.accepted c.in-Ok-mount.m.volume.count c.in-Ok-mount.ensures.running.2

pub returns-in-Ok-mount-clause-ran : goal.returns-in-Ok-mount-clause-ran
returns-in-Ok-mount-clause-ran g c =
    let d = g.D.Disk in
    let s = c.args.s.now in
    let new = seen d c.run_mounted.result.disk in
    let calls : Calls = record { history = c.run_mounted.result.history.items; told = c.run_mounted.result.told.items } in
    ran d.tells d.tells_crashes s (plan_of c.args.scripts.now) c.args.is_left (seen d c.args.disk) new c.in-Ok.taken.superblock.0 c.in-Ok.ensures.taken.0
    (λ t. subst (λ (im : Image). broken_mount (subject_of s (page_of im)) ≡ None) (c.in-Ok.ensures.image t) (c.in-Ok-mount.ensures.mounted.found t).unbroken) calls c.run_mounted.result.end
    (subst (λ (n : ℕ). RunSince d.tells d.tells_crashes c.in-Ok.taken.superblock.0 (plan_of c.args.scripts.now) c.args.is_left n new calls c.run_mounted.result.end) c.faults-before.ensures c.run_mounted.ensures.ran)

pub returns-in-Ok-mount-clause-legal : goal.returns-in-Ok-mount-clause-legal
returns-in-Ok-mount-clause-legal g c = λ t consistent.
    let d = g.D.Disk in
    let from : g.I.MountedFrom.image ≡ d.image c.args.disk = c.requires.image.0 in
    let block : g.I.MountedFrom.block ≡ c.args.s.now = c.requires.image.1 in
    subst {A = Super × Image} (λ z. IsLegalRun z.0 (page_of z.1) c.args.now c.run_mounted.result.history.items) (λ i. (block i, from i))
    (c.run_mounted.ensures.legal t (subst {A = Super × Image} (λ z. IsConsistentImage z.0 (page_of z.1)) (λ i. (sym block i, sym from i)) consistent))

-- the superblock's page that was taken, of the image's volume
taken_clean : (g : Over) (c : goal.After-run_mounted g) → g.D.Disk.tells → super_of c.in-Ok.taken.superblock.0 ≡ record g.I.MountedFrom.block { state = CLEAN }
taken_clean g c t =
    let s = c.args.s.now in
    ap super_of (c.in-Ok.ensures.taken.0 t) ∙ c.requires.spelled t ∙ clean_is s c.requires.clean ∙ ap (λ (b : Super). record b { state = CLEAN }) (sym c.requires.image.1)

pub returns-in-Ok-mount-clause-leaves : goal.returns-in-Ok-mount-clause-leaves
returns-in-Ok-mount-clause-leaves g c = λ t done left.
    let d = g.D.Disk in
    subst {A = Super × Image} (λ z. LeavesImage z.0 z.1 c.args.now c.run_mounted.result.history.items (d.image c.run_mounted.result.disk)) (λ i. (c.requires.image.1 i, c.requires.image.0 i))
    (c.run_mounted.ensures.leaves t (taken_clean g c t) done left)

pub returns-in-Ok-mount-clause-again : goal.returns-in-Ok-mount-clause-again
returns-in-Ok-mount-clause-again g c = λ t crashes checked done left.
    let from : g.I.MountedFrom.image ≡ g.D.Disk.image c.args.disk = c.requires.image.0 in
    let block : g.I.MountedFrom.block ≡ c.args.s.now = c.requires.image.1 in
    subst (λ (s : Super). IsKeepable s (page_of (g.D.Disk.image c.run_mounted.result.disk))) block
    (c.run_mounted.ensures.again t crashes (subst {A = Super × Image} (λ z. IsKeepableImage z.0 z.1) (λ i. (sym block i, sym from i)) checked) (taken_clean g c t) done left)

pub returns-in-Ok-mount-clause-left : goal.returns-in-Ok-mount-clause-left
returns-in-Ok-mount-clause-left g c = λ t crashes checked.
    let d = g.D.Disk in
    let s = c.args.s.now in
    let image = d.image c.args.disk in
    let from : g.I.MountedFrom.image ≡ image = c.requires.image.0 in
    let block : g.I.MountedFrom.block ≡ s = c.requires.image.1 in
    let calls : Calls = record { history = c.run_mounted.result.history.items; told = c.run_mounted.result.told.items } in
    let state = last_of (d.past c.run_mounted.result.disk) in
    mounted_anyway (IsLeftNeverMounted s image (d.image c.run_mounted.result.disk) (IsResting (last_of (d.past c.args.disk))) state) s image c.args.now c.args.is_left calls state c.run_mounted.result.end
    (subst {A = Super × Image} (λ z. LeavesRun ⊥ z.0 z.1 c.args.now c.args.is_left calls state c.run_mounted.result.end) (λ i. (block i, from i))
    (c.run_mounted.ensures.left t crashes (subst {A = Super × Image} (λ z. IsKeepableImage z.0 z.1) (λ i. (sym block i, sym from i)) checked) (taken_clean g c t)))

pub returns-in-Err-mount-clause-ran : goal.returns-in-Err-mount-clause-ran
returns-in-Err-mount-clause-ran g c =
    let d = g.D.Disk in
    let e = c.without_entries-in-Err-mount.ensures in
    let m = c.in-Err-mount.ensures in
    let s = c.args.s.now in
    let took = c.in-Ok.ensures in
    rw (e.disk, e.end, e.history, e.told, c.end_of.ensures) (unmounted d.tells d.tells_crashes s (plan_of c.args.scripts.now) c.args.is_left (seen d c.args.disk) (seen d c.in-Err-mount.not.disk) c.in-Err-mount.not.why
    (λ t. subst (λ (im : Image). IsRefusal s im c.in-Err-mount.not.why) (took.image t) (m.refused t))
    (subst (λ (n : ℕ). IsMountCause n (d.fault_count c.in-Err-mount.not.disk) c.in-Err-mount.not.why) took.cause m.cause)
    (λ t. subst (λ (im : Image). StayBeside s im (d.image c.in-Err-mount.not.disk)) (took.image t) (m.rest t))
    (λ t before. m.same_image t before ∙ took.image t)
    (λ k before. m.same_past k before ∙ took.past k))

-- ---- what a crash leaves where the volume wasn't mounted

pub returns-in-Err-mount-clause-left : goal.returns-in-Err-mount-clause-left
returns-in-Err-mount-clause-left g c = λ t crashes checked.
    let d = g.D.Disk in
    let s = c.args.s.now in
    let e = c.without_entries-in-Err-mount.ensures in
    let m = c.in-Err-mount.ensures in
    let took = c.in-Ok.ensures in
    let old = c.args.disk in
    let mid = c.take.new.disk in
    let state = last_of (d.past c.in-Err-mount.not.disk) in
    rw (e.disk, e.end, e.history, e.told, c.end_of.ensures)
    (refused_mount s (d.image old) (d.image c.in-Err-mount.not.disk) (last_of (d.past old)) state c.args.now c.args.is_left c.in-Err-mount.not.why checked
    (subst (λ (im : Image). StayBeside s im (d.image c.in-Err-mount.not.disk)) (took.image t) (m.rest t))
    (λ cut. subst (λ (im : Image). FoundOn s im) (took.image t) (m.found t cut))
    (λ rests. (let resting = subst (λ (past : List DiskState). IsResting (last_of past)) (sym (took.past crashes)) rests in
    subst {A = Image} (λ im. Leaves (LeavesMounts s im c.in-Err-mount.not.why) state) (took.image t) (λ left crash. (m.left_low t crashes resting left crash, m.left_high t crashes resting left crash, m.left_log t crashes resting left crash)))))

pub returns-in-Err-clause-left : goal.returns-in-Err-clause-left
returns-in-Err-clause-left g c = λ t crashes checked.
    let d = g.D.Disk in
    let e = c.without_entries.ensures in
    rw (e.disk, e.end, e.history, e.told)
    (taken_nothing c.args.s.now (d.image c.args.disk) (d.image c.take.new.disk) (last_of (d.past c.args.disk)) (last_of (d.past c.take.new.disk)) c.args.now c.args.is_left c.in-Err.end checked (c.take.ensures.image t)
    (ap last_of (c.take.ensures.past crashes)) (c.take.ensures.seen crashes)
    (λ done. not_done (d.fault_count c.args.disk) (d.fault_count c.take.new.disk) c.in-Err.end c.in-Err.ensures.cause done))
