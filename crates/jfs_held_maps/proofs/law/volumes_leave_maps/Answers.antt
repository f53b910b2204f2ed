use Rattle.jfs_held_maps.proofs.Kept.{replaced}
use Rattle.jfs_held_maps.proofs.law.volumes_leave_maps.Goals as goal

pub returns : goal.returns
returns c = replaced
