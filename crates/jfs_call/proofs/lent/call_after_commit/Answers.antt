use Rattle.std.proofs.Common.{◌∙◌, sym, refl, inl, inr, Ok, Err}
use Rattle.jfs_volume_calls.specs.Together.{log_parts}
use Rattle.jfs_call.proofs.Lending.{answered_size, lent_behind, lent_by, lent_failed, log_fault, ready_settled, settled_size, size_stays, stopped_at, together_again}
use Rattle.jfs_call.proofs.lent.call_after_commit.Goals as goal

pub returns-in-Err-clause-answered : goal.returns-in-Err-clause-answered
returns-in-Err-clause-answered g c =
    let d = g.D.Disk in
    let old = c.args.volume.now in
    let mid = c.commit.new.volume in
    let high = d.fault_count c.args.log.now.part in
    let high_now = d.fault_count c.commit.new.log.part in
    let fault = c.in-Err.why.fault in
    let cause = c.in-Err.ensures.cause in
    lent_failed c.args.caller c.args.request.now fault old mid c.fail.new.volume (log_parts d c.commit.new.log) high high_now c.fail.result
    (stopped_at fault old mid high high_now c.commit.ensures.settles c.requires.running c.in-Err.ensures.halts (inr (cause.0, cause.1, c.commit.ensures.counts.2))) c.fail.ensures

pub call_after_syncpoint-requires-clause-together : goal.call_after_syncpoint-requires-clause-together
call_after_syncpoint-requires-clause-together g c =
    together_again c.args.caller.client c.args.caller.line c.args.request.now c.commit.new.volume c.call_without_log.new.volume (log_parts g.D.Disk c.commit.new.log) c.in-Ok.ensures.together c.in-NeedsLog.ensures.answered

pub call_after_syncpoint-requires-clause-running : goal.call_after_syncpoint-requires-clause-running
call_after_syncpoint-requires-clause-running g c = c.in-NeedsLog.ensures.answered.halted.0 ∙ c.in-Ok.ensures.halted ∙ c.requires.running

pub returns-in-NeedsLog-clause-answered : goal.returns-in-NeedsLog-clause-answered
returns-in-NeedsLog-clause-answered g c =
    let d = g.D.Disk in
    let old = c.args.volume.now in
    let mid = c.commit.new.volume in
    lent_behind c.args.caller.client c.args.caller.line c.args.request.now old mid c.call_without_log.new.volume c.call_after_syncpoint.new.volume (log_parts d c.call_after_syncpoint.new.log) (d.fault_count c.args.log.now.part) (d.fault_count c.commit.new.log.part)
    (d.fault_count c.call_after_syncpoint.new.log.part) c.call_after_syncpoint.result (ready_settled old mid c.commit.ensures.settles c.in-Ok.ensures.halted c.commit.ensures.text.0) c.commit.ensures.counts.2 c.in-Ok.ensures.cause c.in-NeedsLog.ensures.answered
    c.call_after_syncpoint.ensures.answered

pub returns-in_default-clause-answered : goal.returns-in_default-clause-answered
returns-in_default-clause-answered g c =
    let d = g.D.Disk in
    let old = c.args.volume.now in
    let mid = c.commit.new.volume in
    let new = c.call_without_log.new.volume in
    lent_by c.args.caller.client c.args.caller.line c.args.request.now old mid new (log_parts d c.commit.new.log) (record { low = old.faults; low_now = new.faults; high = d.fault_count c.args.log.now.part; high_now = d.fault_count c.commit.new.log.part })
    c.call_without_log.result c.in_default.not-NeedsLog (ready_settled old mid c.commit.ensures.settles c.in-Ok.ensures.halted c.commit.ensures.text.0) (λ none. c.in-Ok.ensures.together) (sym c.commit.ensures.counts.2) refl c.in-Ok.ensures.cause c.call_without_log.ensures.answered

pub returns-in-Err-clause-does : goal.returns-in-Err-clause-does
returns-in-Err-clause-does g c = record {
  mid = record { volume = c.commit.new.volume; log = log_parts g.D.Disk c.commit.new.log };
  result = Err c.in-Err.why;
  commits = record { commit = c.in-Err.ensures.commit; told = tt; settles = c.commit.ensures.settles; files = c.commit.ensures.files; halts = c.in-Err.ensures.halts; cause = log_fault (g.D.Disk.fault_count c.args.log.now.part) (g.D.Disk.fault_count c.commit.new.log.part) c.in-Err.why c.in-Err.ensures.cause };
  ends = (c.fail.ensures, refl);
}

pub returns-in-NeedsLog-clause-does : goal.returns-in-NeedsLog-clause-does
returns-in-NeedsLog-clause-does g c = record {
  mid = record { volume = c.commit.new.volume; log = log_parts g.D.Disk c.commit.new.log };
  result = Ok tt;
  commits = record { commit = c.in-Ok.ensures.commit; told = c.in-Ok.ensures.told.0; settles = c.commit.ensures.settles; files = c.commit.ensures.files; halts = c.in-Ok.ensures.halts; cause = tt };
  ends = inr (c.call_without_log.new.volume, c.in-NeedsLog.ensures.does, c.call_after_syncpoint.ensures.does);
}

pub returns-in_default-clause-does : goal.returns-in_default-clause-does
returns-in_default-clause-does g c = record {
  mid = record { volume = c.commit.new.volume; log = log_parts g.D.Disk c.commit.new.log };
  result = Ok tt;
  commits = record { commit = c.in-Ok.ensures.commit; told = c.in-Ok.ensures.told.0; settles = c.commit.ensures.settles; files = c.commit.ensures.files; halts = c.in-Ok.ensures.halts; cause = tt };
  ends = inl (c.call_without_log.ensures.does, refl);
}

pub call_without_log-requires-clause-size : goal.call_without_log-requires-clause-size
call_without_log-requires-clause-size g c = size_stays (settled_size c.args.volume.now c.commit.new.volume c.commit.ensures.settles) c.requires.size

pub call_after_syncpoint-requires-clause-size : goal.call_after_syncpoint-requires-clause-size
call_after_syncpoint-requires-clause-size g c =
    size_stays (answered_size c.args.caller.client c.args.caller.line c.args.request.now c.commit.new.volume c.call_without_log.new.volume c.in-NeedsLog.ensures.answered) (size_stays (settled_size c.args.volume.now c.commit.new.volume c.commit.ensures.settles) c.requires.size)
