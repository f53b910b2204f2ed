use Rattle.jfs_entries_kept.proofs.Newest.{newest_law}
use Rattle.jfs_entries_kept.proofs.law.newest_volumes_are_the_same.Goals as goal

pub returns : goal.returns
returns c = newest_law
