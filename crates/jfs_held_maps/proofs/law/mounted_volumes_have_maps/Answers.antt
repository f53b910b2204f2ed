use Rattle.jfs_held_maps.proofs.Mounted.{mounted_law}
use Rattle.jfs_held_maps.proofs.law.mounted_volumes_have_maps.Goals as goal

pub returns : goal.returns
returns c = mounted_law
