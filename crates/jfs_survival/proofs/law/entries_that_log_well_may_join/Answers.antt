use Rattle.jfs_survival.proofs.Entry.{entry_law}
use Rattle.jfs_survival.proofs.law.entries_that_log_well_may_join.Goals as goal

pub returns : goal.returns
returns c = entry_law
