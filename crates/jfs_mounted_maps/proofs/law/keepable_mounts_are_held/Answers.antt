use Rattle.jfs_mounted_maps.proofs.Mounted.{mounted_law}
use Rattle.jfs_mounted_maps.proofs.law.keepable_mounts_are_held.Goals as goal

pub returns : goal.returns
returns c = mounted_law
