use Rattle.jfs_dtree.proofs.Places.{clash_row, leaf_put}
use Rattle.jfs_dtree.proofs.Frames.{head_frame, name_apart}
use Rattle.jfs_dtree.proofs.leaf.put_name.Goals as goal

pub returns-in_default-clause-row : goal.returns-in_default-clause-row
returns-in_default-clause-row c = λ blocks es leaf apart.
    clash_row c.args.form blocks c.args.bytes.now c.name-name.result.now c.args.x.now c.in_default.field-0 es c.name-name.ensures.units c.in_default.ensures leaf apart

pub returns-in-Ok-clause-row : goal.returns-in-Ok-clause-row
returns-in-Ok-clause-row c = λ blocks es leaf apart.
    leaf_put c.args.form blocks c.args.bytes.now c.dt_insert.new.bytes c.name-name.result.now c.args.x.now c.inode.result c.in-Err.place es leaf c.name-name.ensures.units c.inode.ensures c.in-Err.ensures
    c.in-Ok.ensures.sound c.in-Ok.ensures.entries c.in-Ok.ensures.head

pub returns-in-Ok-clause-apart : goal.returns-in-Ok-clause-apart
returns-in-Ok-clause-apart c = λ blocks. name_apart c.args.form blocks c.args.bytes.now c.name-name.result.now c.args.x.now c.in-Err.place c.name-name.ensures.units c.in-Err.ensures

pub returns-in-Err-dt_insert-clause-apart : goal.returns-in-Err-dt_insert-clause-apart
returns-in-Err-dt_insert-clause-apart c = λ blocks. name_apart c.args.form blocks c.args.bytes.now c.name-name.result.now c.args.x.now c.in-Err.place c.name-name.ensures.units c.in-Err.ensures

pub returns-in-Ok-clause-frame : goal.returns-in-Ok-clause-frame
returns-in-Ok-clause-frame c = head_frame c.args.form c.args.bytes.now c.dt_insert.new.bytes c.in-Ok.ensures.head
