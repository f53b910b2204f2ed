use Rattle.std.proofs.Common.{sym}
use Rattle.jfs_dtree.proofs.Places.{place_within, missing_row}
use Rattle.jfs_dtree.proofs.Losses.{name_taken}
use Rattle.jfs_dtree.proofs.Frames.{head_frame}
use Rattle.jfs_dtree.proofs.loss.take_name.Goals as goal

pub returns-in_default-clause-takes : goal.returns-in_default-clause-takes
returns-in_default-clause-takes c = λ blocks es leaf.
    sym (missing_row c.args.form blocks c.args.bytes.now c.name.result.now c.args.x.now c.in_default.field-0 es leaf c.name.ensures.units c.in_default.ensures)

pub entry_at-entry-requires-clause-place : goal.entry_at-entry-requires-clause-place
entry_at-entry-requires-clause-place c = place_within c.args.form c.args.bytes.now c.name.result.now c.in-Ok.place c.in-Ok.ensures

pub dt_remove-requires-clause-place : goal.dt_remove-requires-clause-place
dt_remove-requires-clause-place c = place_within c.args.form c.args.bytes.now c.name.result.now c.in-Ok.place c.in-Ok.ensures

pub returns-clause-takes : goal.returns-clause-takes
returns-clause-takes c = λ blocks.
    name_taken c.args.form blocks c.args.bytes.now c.dt_remove.new.bytes c.name.result.now c.args.x.now c.entry_at-entry.result c.in-Ok.place c.name.ensures.units c.in-Ok.ensures c.entry_at-entry.ensures
    c.dt_remove.ensures.sound c.dt_remove.ensures.entries c.dt_remove.ensures.head

pub returns-clause-frame : goal.returns-clause-frame
returns-clause-frame c = head_frame c.args.form c.args.bytes.now c.dt_remove.new.bytes c.dt_remove.ensures.head
