use Rattle.jfs_held_maps.proofs.Kept.{run_law}
use Rattle.jfs_held_maps.proofs.law.runs_keep_maps.Goals as goal

pub returns : goal.returns
returns c = run_law
