use Rattle.jfs_entries_within.proofs.Within.{within_law}
use Rattle.jfs_entries_within.proofs.law.entries_stay_within.Goals as goal

pub returns : goal.returns
returns c = within_law
