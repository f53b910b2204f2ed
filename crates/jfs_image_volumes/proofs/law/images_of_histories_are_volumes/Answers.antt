use Rattle.jfs_image_volumes.proofs.Crash.{history_law}
use Rattle.jfs_image_volumes.proofs.law.images_of_histories_are_volumes.Goals as goal

pub returns : goal.returns
returns c = history_law
