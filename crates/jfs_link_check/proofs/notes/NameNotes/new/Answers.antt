-- No name was seen.
use Rattle.jfs_each.specs.Each.{found_at}
use Rattle.jfs_link_check.specs.Notes.{names_by}
use Rattle.jfs_link_check.proofs.Noted.{none_noted}
use Rattle.jfs_link_check.proofs.notes.NameNotes.new.Goals as goal

pub returns : goal.returns
returns c blocks page places are = none_noted blocks c.len.result page places _ are c.len.ensures (c.in_ok-counts.ensures (names_by blocks page (found_at page places))) c.new-findings.ensures.items
