use Rattle.jfs_mounted_places.proofs.Mounted.{mounted_law}
use Rattle.jfs_mounted_places.proofs.law.mounted_volumes_are_held.Goals as goal

pub returns : goal.returns
returns c = mounted_law
