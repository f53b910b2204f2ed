use Rattle.std.proofs.lemmas.List.{get_or_default}
use Rattle.jfs_records.proofs.note.note_at.Goals as goal

pub returns : goal.returns
returns c = get_or_default c.args.notes.now c.args.i _ _ c.requires
