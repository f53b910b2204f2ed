use Rattle.jfs_image_volumes.proofs.Volumes.{volume_law}
use Rattle.jfs_image_volumes.proofs.law.images_are_volumes_after_entries.Goals as goal

pub returns : goal.returns
returns c = volume_law
