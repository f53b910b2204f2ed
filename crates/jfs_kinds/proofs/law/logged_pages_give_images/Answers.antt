use Rattle.jfs_kinds.proofs.Images.{image_law}
use Rattle.jfs_kinds.proofs.law.logged_pages_give_images.Goals as goal

pub returns : goal.returns
returns c = image_law
