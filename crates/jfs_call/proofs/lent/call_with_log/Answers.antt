use Rattle.std.proofs.Common.{inl, inr, refl}
use Rattle.jfs_volume_calls.specs.Together.{log_parts}
use Rattle.jfs_call.proofs.Lending.{begins_again, both_again, lent_after, lent_by, ready_first}
use Rattle.jfs_call.proofs.lent.call_with_log.Goals as goal

pub call_again-requires-clause-both : goal.call_again-requires-clause-both
call_again-requires-clause-both g c = both_again c.args.client c.args.line c.args.request.now c.args.volume.now c.call_without_log.new.volume (log_parts g.D.Disk c.args.log.now) c.requires.both c.in-NeedsLog.ensures.answered

pub call_again-requires-clause-begins : goal.call_again-requires-clause-begins
call_again-requires-clause-begins g c = begins_again c.args.client c.args.line c.args.request.now c.args.volume.now c.call_without_log.new.volume c.in-NeedsLog.ensures.answered

pub returns-in-NeedsLog-clause-answered : goal.returns-in-NeedsLog-clause-answered
returns-in-NeedsLog-clause-answered g c =
    let d = g.D.Disk in
    lent_after c.args.client c.args.line c.args.request.now c.args.volume.now c.call_without_log.new.volume c.call_again.new.volume (log_parts d c.call_again.new.log) (d.fault_count c.args.log.now.part) (d.fault_count c.call_again.new.log.part) c.call_again.result
    c.in-NeedsLog.ensures.answered c.call_again.ensures.answered

pub returns-in-NeedsLog-clause-does : goal.returns-in-NeedsLog-clause-does
returns-in-NeedsLog-clause-does g c = inr (c.call_without_log.new.volume, c.in-NeedsLog.ensures.does, c.call_again.ensures.does)

pub returns-in_default-clause-answered : goal.returns-in_default-clause-answered
returns-in_default-clause-answered g c =
    let d = g.D.Disk in
    let high = d.fault_count c.args.log.now.part in
    lent_by c.args.client c.args.line c.args.request.now c.args.volume.now c.args.volume.now c.call_without_log.new.volume (log_parts d c.args.log.now) (record { low = c.args.volume.now.faults; low_now = c.call_without_log.new.volume.faults; high = high; high_now = high })
    c.call_without_log.result c.in_default.not-NeedsLog (ready_first c.args.volume.now) c.requires.both refl refl refl c.call_without_log.ensures.answered

pub returns-in_default-clause-does : goal.returns-in_default-clause-does
returns-in_default-clause-does g c = inl (refl, c.call_without_log.ensures.does)
