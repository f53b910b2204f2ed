use Rattle.jfs_held_volumes.proofs.Crash.{run_law}
use Rattle.jfs_held_volumes.proofs.law.held_volumes_stay_held.Goals as goal

pub returns : goal.returns
returns c = run_law
