use Rattle.jfs_kept_history.proofs.Crash.{redone_again_law}
use Rattle.jfs_kept_history.proofs.law.redone_images_are_keepable.Goals as goal

pub returns : goal.returns
returns c = redone_again_law
