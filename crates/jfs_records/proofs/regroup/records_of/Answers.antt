use Rattle.std.proofs.Common.{◌+◌, ◌∙◌, List, length, map, drop, sym, subst, arith}
use Rattle.jfs_logfmt.specs.declared.log_record.Record.{Record}
use Rattle.jfs_records.specs.Records.{noted, record_of, records_of}
use Rattle.jfs_records.specs.Steps.{IsGrouped}
use Rattle.jfs_records.proofs.Steps.{some_of, next_noted, none_left, grouped_start, grouped_last}
use Rattle.jfs_records.proofs.regroup.records_of.Goals as goal

pub loop-i-init : goal.loop-i-init
loop-i-init c =
    let open_record = c.new-3.result in
    rw (c.new-2.ensures.items)
    (grouped_start open_record.first.now open_record.owner c.args.edits.now c.args.notes.now c.index-edits-0.result c.note_at-owner.result open_record.bytes c.in_ok-record_of.field-0 c.requires.noted (some_of (length c.args.edits.now) (sym c.is_empty.ensures ∙ c.if-is_empty.false)) c.index-edits-0.is c.note_at-owner.ensures c.new-3.ensures c.in_ok-record_of.ensures)

pub loop-i-preserved : goal.loop-i-preserved
loop-i-preserved c =
    let old = c.loop-i.grouping in
    let tx = noted c.args.edits.now c.args.notes.now in
    c.in_ok-add.ensures (map record_of (drop (c.loop-i.i + 1) tx)) (records_of tx)
    (subst (λ (l : List Record). IsGrouped old.open.first.now old.open.owner old.open.bytes old.closed.items old.last l (records_of tx))
    (next_noted c.args.edits.now c.args.notes.now c.loop-i.i (c.loop-i.i + 1) c.index-edits-i.result c.note_at-note.result c.requires.noted c.loop-i-test.true (omega arith) c.index-edits-i.is c.note_at-note.ensures) c.loop-i.invariant)

pub returns : goal.returns
returns c =
    let old = c.loop-i.grouping in
    let tx = noted c.args.edits.now c.args.notes.now in
    c.in_ok-push.ensures.items ∙ grouped_last old.open.first.now old.open.owner old.open.bytes old.closed.items old.last (map record_of (drop c.loop-i.i tx)) (records_of tx) (none_left c.args.edits.now c.args.notes.now c.loop-i.i (omega (arith, c.loop-i-test.false))) c.loop-i.invariant
