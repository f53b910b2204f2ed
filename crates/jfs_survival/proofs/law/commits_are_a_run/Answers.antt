use Rattle.jfs_survival.proofs.Lists.{plain_law}
use Rattle.jfs_survival.proofs.law.commits_are_a_run.Goals as goal

pub returns : goal.returns
returns c = plain_law
