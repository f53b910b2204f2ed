use Rattle.jfs_survival.proofs.Lists.{together_law}
use Rattle.jfs_survival.proofs.law.lists_of_changes_join.Goals as goal

pub returns : goal.returns
returns c = together_law
