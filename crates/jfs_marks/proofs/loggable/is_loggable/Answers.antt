use Rattle.std.proofs.Common.{◌≡◌, ◌<◌, ◌∙◌, sym, ap, true, false, List, length, get_or, subst, arith, rules}
use Rattle.jfs_ranges.specs.declared.edit.Edit.{Edit}
use Rattle.jfs_records.specs.declared.note.Note.{Note}
use Rattle.jfs_marks.proofs.Logged.{one_more, one_at}
use Rattle.jfs_marks.proofs.loggable.is_loggable.Goals as goal

pub loop-i-preserved : goal.loop-i-preserved
loop-i-preserved c = λ rest.
    let i = c.loop-i.i in
    let within : i < length c.args.tx.now = subst (λ (es : List Edit). i < length es) c.as_slice-edits.ensures c.loop-i-test.true in
    let notes : length c.as_slice-notes.result.now ≡ length c.args.notes.now = ap (λ (ns : List Note). length ns) c.as_slice-notes.ensures in
    let can : c.can_log.result ≡ true = search rules in
    c.loop-i.invariant (one_more c.args.blocks c.args.tx.now c.as_slice-notes.result.now i c.index-edits-i.result c.note_at-note.result within (omega (arith, within, notes, c.requires))
    (subst (λ (es : List Edit). c.index-edits-i.result ≡ get_or es i c.index-edits-i.result) c.as_slice-edits.ensures c.index-edits-i.is) c.note_at-note.ensures (c.can_log.ensures.yes can) rest)

pub returns-then-not-can_log-clause-no : goal.returns-then-not-can_log-clause-no
returns-then-not-can_log-clause-no c all =
    let i = c.loop-i.i in
    let within : i < length c.args.tx.now = subst (λ (es : List Edit). i < length es) c.as_slice-edits.ensures c.loop-i-test.true in
    let notes : length c.as_slice-notes.result.now ≡ length c.args.notes.now = ap (λ (ns : List Note). length ns) c.as_slice-notes.ensures in
    let cannot : c.can_log.result ≡ false = search rules in
    sym cannot ∙ c.can_log.ensures.no (one_at c.args.blocks c.args.tx.now c.args.notes.now i c.index-edits-i.result c.note_at-note.result within (omega (arith, within, c.requires))
    (subst (λ (es : List Edit). c.index-edits-i.result ≡ get_or es i c.index-edits-i.result) c.as_slice-edits.ensures c.index-edits-i.is)
    (subst (λ (ns : List Note). c.note_at-note.result ≡ get_or ns i c.note_at-note.result) c.as_slice-notes.ensures c.note_at-note.ensures) all)
