use Rattle.jfs_mounted_maps.proofs.Keepable.{keepable_law}
use Rattle.jfs_mounted_maps.proofs.law.checked_volumes_are_keepable.Goals as goal

pub returns : goal.returns
returns c = keepable_law
