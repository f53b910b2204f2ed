use Rattle.std.proofs.Common.{◌≡◌, ◌+◌, List, length, sym, ap, ◌∙◌, arith}
use Rattle.jfs_bits.specs.declared.descriptor.Pxd.{Pxd}
use Rattle.jfs_ranges.specs.declared.edit.Edit.{Edit}
use Rattle.jfs_records.specs.Records.{noted, tx_of}
use Rattle.jfs_records.specs.Sizes.{bytes_of}
use Rattle.jfs_records.proofs.Sizes.{entry_sized}
use Rattle.jfs_volume.specs.Runs.{taken_in, freed_in, pages_freed}
use Rattle.jfs_volume.proofs.Texts.{all_fit, tx_of-noted}
use Rattle.jfs_volume.proofs.Taken.{few_freed}
use Rattle.jfs_volume.proofs.volume.Volume.prepare.Goals as goal

pub make_draft-requires-clause-fits : goal.make_draft-requires-clause-fits
make_draft-requires-clause-fits g c =
    let loggable = rw (← c.self.view_is) at c.requires.loggable in
    rw (c.as_slice-edits.ensures, c.as_slice-notes.ensures)
    (all_fit (length c.self.inside.maps.blocks.states) (noted c.args.tx.now c.args.notes.now) (omega (arith, c.blocks-blocks.ensures.most, c.blocks-blocks.ensures.value)) loggable)

pub make_draft-requires-clause-small : goal.make_draft-requires-clause-small
make_draft-requires-clause-small g c =
    rw (c.as_slice-edits.ensures, c.as_slice-notes.ensures) (omega (arith, c.requires.small, entry_sized 0 (noted c.args.tx.now c.args.notes.now)))

pub overflow_cast-len : goal.overflow_cast-len
overflow_cast-len g c =
    let tx = c.args.tx.now in
    let list = noted tx c.args.notes.now in
    let length_is : c.len.result ≡ length (freed_in tx) = c.len.ensures ∙ ap (λ (runs : List Pxd). length runs) c.in_ok-draft.ensures.freed ∙ ap (λ (edits : List Edit). length (freed_in edits)) c.as_slice-edits.ensures in
    let bytes : bytes_of (tx_of list) ≡ bytes_of tx = ap bytes_of (tx_of-noted tx c.args.notes.now c.requires.noted) in
    omega (arith, length_is, few_freed tx, bytes, c.requires.small)

pub returns-clause-draft : goal.returns-clause-draft
returns-clause-draft g c =
    let tx = c.args.tx.now in
    let notes = c.args.notes.now in
    let d = rw (c.as_slice-edits.ensures, c.as_slice-notes.ensures, c.end-at.ensures) at c.in_ok-draft.ensures in
    let same = tx_of-noted tx notes c.requires.noted in
    rw (← c.self.view_is) (record {
      bytes = d.text;
      ends = d.ends;
      last = d.last;
      pages = d.pages ∙ ap (λ (edits : List Edit). pages_freed (c.self.inside.appended + 1) edits) (sym same);
      taken = d.taken ∙ ap taken_in (sym same);
      freed = d.freed ∙ ap freed_in (sym same);
    })

pub invariant_of-self : goal.invariant_of-self
invariant_of-self g c = let i = c.self.invariant in rw c.in_err-make_room.ensures.err (i.0, i.1, i.2, i.3, i.4, i.5, i.6, i.7, i.8, i.9)

pub invariant_of-self-2 : goal.invariant_of-self-2
invariant_of-self-2 g c = let i = c.self.invariant in rw c.in_ok-make_room.ensures.ok (i.0, i.1, i.2, i.3, i.4, i.5, i.6, i.7, i.8, i.9)
