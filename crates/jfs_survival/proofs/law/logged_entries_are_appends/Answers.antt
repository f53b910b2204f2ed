use Rattle.jfs_survival.proofs.Enters.{enters_law}
use Rattle.jfs_survival.proofs.law.logged_entries_are_appends.Goals as goal

pub returns : goal.returns
returns c = enters_law
