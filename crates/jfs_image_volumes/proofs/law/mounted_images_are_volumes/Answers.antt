use Rattle.jfs_image_volumes.proofs.Next.{start_law}
use Rattle.jfs_image_volumes.proofs.law.mounted_images_are_volumes.Goals as goal

pub returns : goal.returns
returns c = start_law
