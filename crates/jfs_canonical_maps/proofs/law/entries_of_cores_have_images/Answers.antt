use Rattle.jfs_canonical_maps.proofs.Images.{core_law}
use Rattle.jfs_canonical_maps.proofs.law.entries_of_cores_have_images.Goals as goal

pub returns : goal.returns
returns c = core_law
