use Rattle.jfs_canonical_maps.proofs.Images.{follow_law}
use Rattle.jfs_canonical_maps.proofs.law.entries_have_images.Goals as goal

pub returns : goal.returns
returns c = follow_law
