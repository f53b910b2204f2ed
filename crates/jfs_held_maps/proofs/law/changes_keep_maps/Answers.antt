use Rattle.jfs_held_maps.proofs.Kept.{change_law}
use Rattle.jfs_held_maps.proofs.law.changes_keep_maps.Goals as goal

pub returns : goal.returns
returns c = change_law
