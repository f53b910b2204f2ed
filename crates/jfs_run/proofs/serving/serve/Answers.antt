use Rattle.std.proofs.Common.{◌∙◌, ◌≡◌, List, length, refl, subst, arith}
use Rattle.std.specs.Prelude.{Bool}
use Rattle.std.proofs.lemmas.List.{length-map}
use Rattle.std.specs.Global.{Vec}
use Rattle.jfs_disk.specs.Crash.{last_of, seen_of}
use Rattle.jfs_disk.specs.Image.{Image}
use Rattle.jfs_disk.specs.declared.disk.Disk.{Ghosts}
use Rattle.jfs_super.specs.declared.fields.Super.{Super}
use Rattle.jfs_plain.specs.declared.call.Line.{Line}
use Rattle.jfs_server.specs.Stopped.{IsStopped}
use Rattle.jfs_server.specs.declared.stopping.Last.{Last}
use Rattle.jfs_server.specs.shared.specs.Start.{IsJustMounted, base_at}
use Rattle.jfs_server.specs.shared.specs.legal.specs.served.specs.mounted.specs.declared.mounted.Mounted.{Mounted}
use Rattle.jfs_server.specs.shared.specs.legal.specs.served.specs.unmount.specs.Unmount.{IsAllHome}
use Rattle.jfs_server.specs.shared.specs.legal.specs.served.specs.volume_calls.specs.Together.{log_parts}
use Rattle.jfs_run.specs.Telling.{AreAsMany}
use Rattle.jfs_run.proofs.Home.{fresh_home}
use Rattle.jfs_run.proofs.Passes.{fresh, ready, each_kept, seats, may_stop}
use Rattle.jfs_run.proofs.Served.{uncalled, is_served}
use Rattle.jfs_run.proofs.serving.serve.Goals as goal

home : {D : Type 0} (d : Ghosts D) (s : Super) (image : Image) (m : Mounted D d) → IsJustMounted d.tells d.tells_crashes s image m.volume (log_parts d m.log) → IsAllHome m.volume
home d s image m j = fresh_home d.tells d.tells_crashes s image m.volume (log_parts d m.log) j

-- a volume that was given back reads as the one that came in
reads_after : {D : Type 0} (d : Ghosts D) (came gave : Mounted D d) → gave ≡ came → (d.tells_crashes → d.image gave.log.part ≡ seen_of (last_of (d.past gave.log.part))) → d.tells_crashes → d.image came.log.part ≡ seen_of (last_of (d.past came.log.part))
reads_after {D} d came gave same reads k = subst (λ (m : Mounted D d). d.image m.log.part ≡ seen_of (last_of (d.past m.log.part))) same (reads k)

pub do_scripts-passes-requires-clause-ready : goal.do_scripts-passes-requires-clause-ready
do_scripts-passes-requires-clause-ready g c κs within =
    let d = g.D.Disk in
    let base = base_at g.I.MountedFrom.block g.I.MountedFrom.image c.args.m.volume (d.page_count c.args.m.log.part) (d.fault_count c.args.m.log.part) in
    let table = c.in-Ok-start_from.server.turns.table.shared.table_id in
    let started = c.in-Ok-start_from.ensures.ok in
    ready d table base (length c.args.scripts.now) 1 c.args.scripts.now c.in-Ok-start_from.passes.items c.args.marks.now.items (fresh d table base (length c.args.scripts.now) c.in-Ok-start_from.passes.items started) started.many
    c.requires.plan.fit c.requires.plan.few c.requires.room

pub stop-mounted-requires : goal.stop-mounted-requires
stop-mounted-requires g c =
    let d = g.D.Disk in
    let base = base_at g.I.MountedFrom.block g.I.MountedFrom.image c.args.m.volume (d.page_count c.args.m.log.part) (d.fault_count c.args.m.log.part) in
    let table = c.in-Ok-start_from.server.turns.table.shared.table_id in
    let started = c.in-Ok-start_from.ensures.ok in
    let passes = c.in-Ok-start_from.passes.items in
    let after = c.do_scripts-passes.result.passes.items in
    let kept = each_kept d c.args.now c.do_scripts-passes.result.failed c.args.scripts.now passes after c.do_scripts-passes.new.marks.items c.do_scripts-passes.ensures.came in
    let back = seats d table (length c.args.scripts.now) base 1 passes after kept (fresh d table base (length c.args.scripts.now) passes started) in
    let some = c.requires.plan.clients.0 in
    let same = length-map c.args.scripts.now (λ (script : Vec Line). script.items) in
    let many = started.many in
    let as_many = back.1 in
    record { passes = (may_stop d table (length c.args.scripts.now) base after back.0 (as_many ∙ many), omega (arith, some, same, many, as_many)) }

pub returns-in-Ok-start_from : goal.returns-in-Ok-start_from
returns-in-Ok-start_from g c =
    let d = g.D.Disk in
    let table = c.in-Ok-start_from.server.turns.table.shared.table_id in
    let some = c.requires.plan.clients.0 in
    let same = length-map c.args.scripts.now (λ (script : Vec Line). script.items) in
    record {
      served = is_served d c.args.scripts.now c.args.now g.I.MountedFrom.image g.I.MountedFrom.block c.args.m c.do_scripts-passes.new.marks.items c.stop-mounted.result c.do_scripts-passes.result.failed table c.in-Ok-start_from.passes.items c.do_scripts-passes.result.passes.items
          c.in-Ok-start_from.ensures.ok c.do_scripts-passes.ensures.came (omega (arith, some, same)) c.args.is_left (subst (λ (last : Last). IsStopped d last c.do_scripts-passes.result.passes.items c.stop-mounted.result) c.last_for.ensures c.stop-mounted.ensures.stopped)
          (record { mounted = c.stop-mounted.result.mounted; history = c.stop-mounted.result.history; is_whole = c.are_whole.result; is_broken_off = c.stop-mounted.result.is_broken_off; failed = c.do_scripts-passes.result.failed; ending = c.stop-mounted.result.ending }) refl refl refl refl (λ is. subst (λ (ms : List (Vec Bool)). AreAsMany c.args.scripts.now ms) c.as_slice.ensures.value (c.are_whole.ensures is)) c.requires.mounted.spelled;
    }

-- ---- memory lacked for the clients

pub returns-in_default : goal.returns-in_default
returns-in_default g c = record {
  served = uncalled g.D.Disk c.args.scripts.now c.args.now g.I.MountedFrom.image g.I.MountedFrom.block c.args.m c.args.marks.now.items c.uncalled.result c.uncalled.ensures.history c.uncalled.ensures.whole c.uncalled.ensures.failed c.uncalled.ensures.same c.requires.mounted (reads_after g.D.Disk c.args.m c.uncalled.result.mounted c.uncalled.ensures.same c.uncalled.ensures.reads)
      c.args.is_left (c.uncalled.ensures.ending ∙ c.unbegun.ensures) (home g.D.Disk g.I.MountedFrom.block g.I.MountedFrom.image c.args.m c.requires.mounted) c.requires.room;
}

pub returns-in-Err : goal.returns-in-Err
returns-in-Err g c = record {
  served = uncalled g.D.Disk c.args.scripts.now c.args.now g.I.MountedFrom.image g.I.MountedFrom.block c.args.m c.args.marks.now.items c.uncalled-in-Err.result c.uncalled-in-Err.ensures.history c.uncalled-in-Err.ensures.whole c.uncalled-in-Err.ensures.failed (c.uncalled-in-Err.ensures.same ∙ c.in-Err.ensures.err) c.requires.mounted (reads_after g.D.Disk c.args.m c.uncalled-in-Err.result.mounted (c.uncalled-in-Err.ensures.same ∙ c.in-Err.ensures.err) c.uncalled-in-Err.ensures.reads)
      c.args.is_left (c.uncalled-in-Err.ensures.ending ∙ c.unbegun-in-Err.ensures) (home g.D.Disk g.I.MountedFrom.block g.I.MountedFrom.image c.args.m c.requires.mounted) c.requires.room;
}
