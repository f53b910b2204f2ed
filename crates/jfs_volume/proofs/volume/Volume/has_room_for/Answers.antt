use Rattle.std.proofs.Common.{sym, ◌∙◌}
use Rattle.jfs_records.specs.Records.{noted}
use Rattle.jfs_records.specs.Sizes.{entry_size}
use Rattle.jfs_volume.specs.Text.{text_in}
use Rattle.jfs_volume.proofs.Texts.{room_same, room_fits}
use Rattle.jfs_volume.proofs.volume.Volume.has_room_for.Goals as goal

pub returns-clause-room : goal.returns-clause-room
returns-clause-room g c =
    let text = text_in c.self.inside.text in
    rw (← c.self.view_is) (c.has_room.ensures ∙ rw (c.entry_size-size.ensures, c.as_slice.ensures, c.as_slice-2.ensures) (room_same text (entry_size (noted c.args.tx.now c.args.notes.now)) c.self.inside.text.ring_pages.1))

pub returns-clause-small : goal.returns-clause-small
returns-clause-small g c fits =
    let text = text_in c.self.inside.text in
    let size = entry_size (noted c.args.tx.now c.args.notes.now) in
    (room_fits text size c.self.inside.text.ring_pages.1 (rw (c.entry_size-size.ensures, c.as_slice.ensures, c.as_slice-2.ensures) at (sym c.has_room.ensures ∙ fits))).0
