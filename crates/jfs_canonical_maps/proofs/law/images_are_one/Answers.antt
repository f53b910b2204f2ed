use Rattle.jfs_canonical_maps.proofs.Images.{one_law}
use Rattle.jfs_canonical_maps.proofs.law.images_are_one.Goals as goal

pub returns : goal.returns
returns c = one_law
