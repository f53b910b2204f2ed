use Rattle.jfs_dtree.proofs.Places.{place_within, found_row, missing_row}
use Rattle.jfs_dtree.proofs.leaf.found_at.Goals as goal

pub entry_at-requires-clause-place : goal.entry_at-requires-clause-place
entry_at-requires-clause-place c = place_within c.args.form c.args.bytes.now c.name.result.now c.in-Ok.place c.in-Ok.ensures

pub returns-in-Ok : goal.returns-in-Ok
returns-in-Ok c = λ blocks es leaf.
    found_row c.args.form blocks c.args.bytes.now c.name.result.now c.args.x.now c.entry_at.result c.in-Ok.place es leaf c.name.ensures.units c.in-Ok.ensures c.entry_at.ensures

pub returns-in-Err : goal.returns-in-Err
returns-in-Err c = λ blocks es leaf.
    missing_row c.args.form blocks c.args.bytes.now c.name.result.now c.args.x.now c.in-Err.field-0 es leaf c.name.ensures.units c.in-Err.ensures
