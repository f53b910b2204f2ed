use Rattle.jfs_mount_maps.proofs.Joined.{maps_law}
use Rattle.jfs_mount_maps.proofs.law.found_maps_give_the_image.Goals as goal

pub returns : goal.returns
returns c = maps_law
