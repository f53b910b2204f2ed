use Rattle.std.proofs.Common.{sym, refl, inl, inr, Ok, Err, arith}
use Rattle.jfs_volume_calls.specs.Together.{log_parts}
use Rattle.jfs_call.proofs.Lending.{lent_by, lent_failed, lent_out, lent_still, point_fault, ready_settled, settled_size, size_stays, stopped_at}
use Rattle.jfs_call.proofs.lent.call_after_syncpoint.Goals as goal

pub returns-then-text_end-gt-LAST_POINT-clause-answered : goal.returns-then-text_end-gt-LAST_POINT-clause-answered
returns-then-text_end-gt-LAST_POINT-clause-answered g c = lent_still c.args.caller.client c.args.caller.line c.args.request.now c.args.volume.now (log_parts g.D.Disk c.args.log.now) (g.D.Disk.fault_count c.args.log.now.part) (λ none. c.requires.together)

pub returns-in-Err-clause-answered : goal.returns-in-Err-clause-answered
returns-in-Err-clause-answered g c =
    let d = g.D.Disk in
    let old = c.args.volume.now in
    let mid = c.syncpoint.new.volume in
    let high = d.fault_count c.args.log.now.part in
    let high_now = d.fault_count c.syncpoint.new.log.part in
    let fault = c.in-Err.fault in
    lent_failed c.args.caller c.args.request.now fault old mid c.fail.new.volume (log_parts d c.syncpoint.new.log) high high_now c.fail.result
    (stopped_at fault old mid high high_now c.syncpoint.ensures.settles c.requires.running c.in-Err.ensures.halts c.in-Err.ensures.cause) c.fail.ensures

pub returns-in-NeedsLog-clause-answered : goal.returns-in-NeedsLog-clause-answered
returns-in-NeedsLog-clause-answered g c =
    let d = g.D.Disk in
    let old = c.args.volume.now in
    let mid = c.syncpoint.new.volume in
    let new = c.call_without_log.new.volume in
    lent_out c.args.caller.client c.args.caller.line c.args.request.now old mid new (log_parts d c.syncpoint.new.log) (record { low = old.faults; low_now = new.faults; high = d.fault_count c.args.log.now.part; high_now = d.fault_count c.syncpoint.new.log.part })
    (ready_settled old mid c.syncpoint.ensures.settles c.in-Ok.ensures.halted c.in-Ok.ensures.text) (λ none. c.in-Ok.ensures.together) (sym c.in-Ok.ensures.cause.0) refl c.in-Ok.ensures.cause.1 c.in-NeedsLog.ensures.answered

pub returns-in_default-clause-answered : goal.returns-in_default-clause-answered
returns-in_default-clause-answered g c =
    let d = g.D.Disk in
    let old = c.args.volume.now in
    let mid = c.syncpoint.new.volume in
    let new = c.call_without_log.new.volume in
    lent_by c.args.caller.client c.args.caller.line c.args.request.now old mid new (log_parts d c.syncpoint.new.log) (record { low = old.faults; low_now = new.faults; high = d.fault_count c.args.log.now.part; high_now = d.fault_count c.syncpoint.new.log.part })
    c.call_without_log.result c.in_default.not-NeedsLog (ready_settled old mid c.syncpoint.ensures.settles c.in-Ok.ensures.halted c.in-Ok.ensures.text) (λ none. c.in-Ok.ensures.together) (sym c.in-Ok.ensures.cause.0) refl c.in-Ok.ensures.cause.1 c.call_without_log.ensures.answered

pub returns-then-text_end-gt-LAST_POINT-clause-does : goal.returns-then-text_end-gt-LAST_POINT-clause-does
returns-then-text_end-gt-LAST_POINT-clause-does g c = inl (omega (arith, c.text_end.ensures, c.if-text_end-gt-LAST_POINT.true), (refl, refl))

pub returns-in-Err-clause-does : goal.returns-in-Err-clause-does
returns-in-Err-clause-does g c = inr (record {
  mid = record { volume = c.syncpoint.new.volume; log = log_parts g.D.Disk c.syncpoint.new.log };
  result = Err c.in-Err.fault;
  points = record { syncpoint = c.in-Err.ensures.syncpoint; told = tt; settles = c.syncpoint.ensures.settles; shown = c.syncpoint.ensures.shown; leaves = c.syncpoint.ensures.leaves; maps = tt; halts = c.in-Err.ensures.halts; cause = point_fault c.args.volume.now.faults c.syncpoint.new.volume.faults (g.D.Disk.fault_count c.args.log.now.part) (g.D.Disk.fault_count c.syncpoint.new.log.part) c.in-Err.fault c.in-Err.ensures.cause };
  ends = (c.fail.ensures, refl);
})

pub returns-in-NeedsLog-clause-does : goal.returns-in-NeedsLog-clause-does
returns-in-NeedsLog-clause-does g c = inr (record {
  mid = record { volume = c.syncpoint.new.volume; log = log_parts g.D.Disk c.syncpoint.new.log };
  result = Ok tt;
  points = record { syncpoint = c.in-Ok.ensures.syncpoint; told = c.in-Ok.ensures.counts.1; settles = c.syncpoint.ensures.settles; shown = c.syncpoint.ensures.shown; leaves = c.syncpoint.ensures.leaves; maps = c.in-Ok.ensures.maps; halts = c.in-Ok.ensures.halts; cause = tt };
  ends = inr (c.call_without_log.new.volume, c.in-NeedsLog.ensures.does, (refl, refl));
})

pub returns-in_default-clause-does : goal.returns-in_default-clause-does
returns-in_default-clause-does g c = inr (record {
  mid = record { volume = c.syncpoint.new.volume; log = log_parts g.D.Disk c.syncpoint.new.log };
  result = Ok tt;
  points = record { syncpoint = c.in-Ok.ensures.syncpoint; told = c.in-Ok.ensures.counts.1; settles = c.syncpoint.ensures.settles; shown = c.syncpoint.ensures.shown; leaves = c.syncpoint.ensures.leaves; maps = c.in-Ok.ensures.maps; halts = c.in-Ok.ensures.halts; cause = tt };
  ends = inl (c.call_without_log.ensures.does, refl);
})

pub call_without_log-requires-clause-size : goal.call_without_log-requires-clause-size
call_without_log-requires-clause-size g c = size_stays (settled_size c.args.volume.now c.syncpoint.new.volume c.syncpoint.ensures.settles) c.requires.size
