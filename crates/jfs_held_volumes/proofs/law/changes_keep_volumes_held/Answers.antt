use Rattle.jfs_held_volumes.proofs.Kept.{change_law}
use Rattle.jfs_held_volumes.proofs.law.changes_keep_volumes_held.Goals as goal

pub returns : goal.returns
returns c = change_law
