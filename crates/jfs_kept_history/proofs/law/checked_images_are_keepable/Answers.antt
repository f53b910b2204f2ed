use Rattle.jfs_kept_history.proofs.Keepable.{checked_law}
use Rattle.jfs_kept_history.proofs.law.checked_images_are_keepable.Goals as goal

pub returns : goal.returns
returns c = checked_law
