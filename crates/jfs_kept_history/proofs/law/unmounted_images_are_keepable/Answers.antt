use Rattle.jfs_kept_history.proofs.Unmounts.{unmounted_again_law}
use Rattle.jfs_kept_history.proofs.law.unmounted_images_are_keepable.Goals as goal

pub returns : goal.returns
returns c = unmounted_again_law
