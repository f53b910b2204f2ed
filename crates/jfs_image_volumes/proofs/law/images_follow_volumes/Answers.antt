use Rattle.jfs_image_volumes.proofs.Next.{next_law}
use Rattle.jfs_image_volumes.proofs.law.images_follow_volumes.Goals as goal

pub returns : goal.returns
returns c = next_law
