use Rattle.std.proofs.Common.{◌+◌, List, length, map, drop, sym, ◌∙◌, subst, arith}
use Rattle.jfs_logfmt.specs.declared.log_record.Record.{Record}
use Rattle.jfs_records.specs.Records.{noted, record_of}
use Rattle.jfs_records.specs.Sizes.{entry_size}
use Rattle.jfs_records.specs.Steps.{IsMeasured}
use Rattle.jfs_records.proofs.Steps.{some_of, next_noted, none_left, measured_start, measured_last}
use Rattle.jfs_records.proofs.size.entry_size.Goals as goal

pub loop-i-init : goal.loop-i-init
loop-i-init c =
    let open_record = c.new-open.result in
    measured_start open_record.first.now open_record.owner c.args.edits.now c.args.notes.now c.index-edits-0.result c.note_at-owner.result open_record.bytes c.saturating_add-size.result c.requires.noted (some_of (length c.args.edits.now) (sym c.is_empty.ensures ∙ c.if-is_empty.false)) c.index-edits-0.is c.note_at-owner.ensures c.new-open.ensures c.saturating_add-size.ensures

pub loop-i-preserved : goal.loop-i-preserved
loop-i-preserved c =
    let old = c.loop-i.measure in
    let tx = noted c.args.edits.now c.args.notes.now in
    c.add.ensures (map record_of (drop (c.loop-i.i + 1) tx)) (entry_size tx)
    (subst (λ (l : List Record). IsMeasured old.open.first.now old.open.owner old.open.bytes old.size l (entry_size tx))
    (next_noted c.args.edits.now c.args.notes.now c.loop-i.i (c.loop-i.i + 1) c.index-edits-i.result c.note_at-note.result c.requires.noted c.loop-i-test.true (omega arith) c.index-edits-i.is c.note_at-note.ensures) c.loop-i.invariant)

pub returns : goal.returns
returns c =
    let old = c.loop-i.measure in
    let tx = noted c.args.edits.now c.args.notes.now in
    measured_last old.open.first.now old.open.owner old.open.bytes old.size (map record_of (drop c.loop-i.i tx)) (entry_size tx) (none_left c.args.edits.now c.args.notes.now c.loop-i.i (omega (arith, c.loop-i-test.false))) c.loop-i.invariant
