use Rattle.jfs_shown.proofs.Image.{image_law}
use Rattle.jfs_shown.proofs.law.shown_maps_give_the_image.Goals as goal

pub returns : goal.returns
returns c = image_law
