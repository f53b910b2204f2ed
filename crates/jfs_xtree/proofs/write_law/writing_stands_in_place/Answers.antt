use Rattle.jfs_xtree.proofs.WrittenIn.{written_in_entry, written_in_hole}
use Rattle.jfs_xtree.proofs.write_law.writing_stands_in_place.Goals as goal

pub returns-clause-entry : goal.returns-clause-entry
returns-clause-entry c = written_in_entry

pub returns-clause-hole : goal.returns-clause-hole
returns-clause-hole c = written_in_hole
