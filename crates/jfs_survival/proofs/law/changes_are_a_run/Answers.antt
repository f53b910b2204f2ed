use Rattle.jfs_survival.proofs.Runs.{run_law}
use Rattle.jfs_survival.proofs.law.changes_are_a_run.Goals as goal

pub returns : goal.returns
returns c = run_law
