use Rattle.jfs_image_volumes.proofs.Shows.{shows_law}
use Rattle.jfs_image_volumes.proofs.law.images_show_what_is_logged_after_entries.Goals as goal

pub returns : goal.returns
returns c = shows_law
