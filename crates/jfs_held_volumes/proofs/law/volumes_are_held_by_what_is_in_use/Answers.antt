use Rattle.jfs_held_volumes.proofs.Kept.{replaced}
use Rattle.jfs_held_volumes.proofs.law.volumes_are_held_by_what_is_in_use.Goals as goal

pub returns : goal.returns
returns c = replaced
