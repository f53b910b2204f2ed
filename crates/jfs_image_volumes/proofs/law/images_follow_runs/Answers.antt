use Rattle.jfs_image_volumes.proofs.Next.{run_law}
use Rattle.jfs_image_volumes.proofs.law.images_follow_runs.Goals as goal

pub returns : goal.returns
returns c = run_law
