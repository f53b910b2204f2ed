use Rattle.jfs_entries_within.proofs.Within.{part_law}
use Rattle.jfs_entries_within.proofs.law.entries_tell_their_part_alone.Goals as goal

pub returns : goal.returns
returns c = part_law
