use Rattle.std.proofs.Common.{◌<◌, ◌+◌, ℕ, List, length, sym, ap, ◌∙◌, subst, rules, arith}
use Rattle.jfs_ranges.specs.declared.edit.Edit.{Edit}
use Rattle.jfs_ranges.specs.Apply.{touches_tx}
use Rattle.jfs_records.specs.Records.{noted}
use Rattle.jfs_pages.specs.Dirty.{dirty_of}
use Rattle.jfs_halves.specs.Parts.{Parts, StandsFor}
use Rattle.jfs_volume.specs.Append.{unreserved}
use Rattle.jfs_volume.specs.Room.{has_room}
use Rattle.jfs_volume.specs.Runs.{taken_in, freed_in, pages_freed}
use Rattle.jfs_volume.proofs.Editing.{tx_within}
use Rattle.jfs_volume.proofs.Texts.{tx_of-noted, draft_size}
use Rattle.jfs_volume.proofs.Appending.{kept_appends, kept_same, kept_stands, appends_after, entry_after, draft_after, tells_room, shows_after, writable_after, kept_stays, unless_after}
use Rattle.jfs_volume.proofs.volume.Volume.append.Goals as goal

pub returns-then-not-has_room_for-clause-appends : goal.returns-then-not-has_room_for-clause-appends
returns-then-not-has_room_for-clause-appends g c may now seen asked told crashes half s =
    let p = c.args.self.now in
    let list = noted c.args.tx.now c.args.notes.now in
    kept_appends seen asked list p p half (subst (λ (edits : List Edit). StandsFor seen asked (unreserved edits p) half) (sym (tx_of-noted c.args.tx.now c.args.notes.now c.requires.noted)) s) (kept_same p)

pub enter-requires-clause-within : goal.enter-requires-clause-within
enter-requires-clause-within g c n t =
    let p = c.args.self.now in
    subst (λ (blocks : ℕ). n < blocks) (sym (ap (λ (q : Parts). q.blocks) c.prepare.ensures.stays.parts))
    (let within = tx_within (length p.map.states) (noted c.args.tx.now c.args.notes.now) n c.requires.loggable (ap (λ (edits : List Edit). touches_tx n edits) (tx_of-noted c.args.tx.now c.args.notes.now c.requires.noted) ∙ t) in omega (arith, within, c.requires.blocks))

pub enter-requires-clause-runs : goal.enter-requires-clause-runs
enter-requires-clause-runs g c =
    let d = c.in-Ok.ensures.draft in
    let same = tx_of-noted c.args.tx.now c.args.notes.now c.requires.noted in
    record {
      taken = d.taken ∙ ap taken_in same;
      freed = d.freed ∙ ap freed_in same;
      spare = c.in-Ok.ensures.spare;
      last = d.last ∙ sym (ap (λ (q : Parts). q.appended + 1) c.prepare.ensures.stays.parts);
      pages = d.pages ∙ ap (λ (edits : List Edit). pages_freed (c.args.self.now.appended + 1) edits) same ∙ sym (ap (λ (q : Parts). pages_freed (q.appended + 1) c.args.tx.now) c.prepare.ensures.stays.parts);
    }

pub enter-requires-clause-room : goal.enter-requires-clause-room
enter-requires-clause-room g c =
    let p = c.args.self.now in
    let list = noted c.args.tx.now c.args.notes.now in
    let size = ap (λ (bytes : List ℕ). length bytes) c.in-Ok.ensures.draft.bytes ∙ draft_size p.text.ring (p.text.place + length p.text.bytes) (p.appended + 1) list in
    ap (λ (q : Parts). has_room q.text (length c.in-Ok.draft.text.bytes.items)) c.prepare.ensures.stays.parts ∙ ap (λ (n : ℕ). has_room p.text n) size ∙ sym c.has_room_for.ensures.room ∙ search (rules)

pub returns-in-Ok-clause-appends : goal.returns-in-Ok-clause-appends
returns-in-Ok-clause-appends g c may now seen asked told crashes half s =
    let p = c.args.self.now in
    let m = c.prepare.new.self in
    let list = noted c.args.tx.now c.args.notes.now in
    let kept = c.prepare.ensures.stays in
    appends_after seen asked c.args.entry now list c.args.contents.now p m c.enter.new.self half c.enter.result kept
    (c.enter.ensures.appends list (tx_of-noted c.args.tx.now c.args.notes.now c.requires.noted) (draft_after list p m c.in-Ok.draft kept c.in-Ok.ensures.draft) (writable_after c.args.contents.now c.args.tx.now p m kept may) now seen asked told crashes half (kept_stands seen asked c.args.tx.now p m half s kept))

pub returns-in-Ok-clause-adds : goal.returns-in-Ok-clause-adds
returns-in-Ok-clause-adds g c =
    let p = c.args.self.now in
    let m = c.prepare.new.self in
    let list = noted c.args.tx.now c.args.notes.now in
    let kept = c.prepare.ensures.stays in
    entry_after c.args.entry list c.args.marks p m c.enter.new.self c.enter.result kept
    (c.enter.ensures.adds list (tx_of-noted c.args.tx.now c.args.notes.now c.requires.noted) (draft_after list p m c.in-Ok.draft kept c.in-Ok.ensures.draft))

pub returns-in-Err-clause-appends : goal.returns-in-Err-clause-appends
returns-in-Err-clause-appends g c may now seen asked told crashes half s =
    let p = c.args.self.now in
    let list = noted c.args.tx.now c.args.notes.now in
    kept_appends seen asked list p c.prepare.new.self half (subst (λ (edits : List Edit). StandsFor seen asked (unreserved edits p) half) (sym (tx_of-noted c.args.tx.now c.args.notes.now c.requires.noted)) s) c.prepare.ensures.stays

pub returns-in-Ok-clause-room : goal.returns-in-Ok-clause-room
returns-in-Ok-clause-room g c = tells_room _ c.enter.result (sym c.has_room_for.ensures.room ∙ search (rules)) c.enter.ensures.had_room

pub returns-in-Ok-clause-shows : goal.returns-in-Ok-clause-shows
returns-in-Ok-clause-shows g c told clean =
    let p = c.args.self.now in
    let m = c.prepare.new.self in
    let kept = c.prepare.ensures.stays in
    shows_after c.args.contents.now c.args.tx.now p m c.enter.new.self c.enter.result (ap (λ (r : Parts). r.view) kept.parts) (c.enter.ensures.shows told (λ b put. ap (λ (r : Parts). dirty_of r.dirty b) kept.parts ∙ clean b put))

pub returns-in-Err-clause-stays : goal.returns-in-Err-clause-stays
returns-in-Err-clause-stays g c = kept_stays c.args.self.now c.prepare.new.self c.prepare.ensures.stays

pub returns-in-Ok-clause-stays : goal.returns-in-Ok-clause-stays
returns-in-Ok-clause-stays g c = unless_after g.D.Disk.tells g.D.Disk.tells_crashes c.args.self.now c.prepare.new.self c.enter.new.self c.enter.result c.enter.ensures.had_room c.prepare.ensures.stays c.enter.ensures.stays
