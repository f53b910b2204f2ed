use Rattle.jfs_held_maps.proofs.Places.{first_law}
use Rattle.jfs_held_maps.proofs.law.first_pages_are_fixed.Goals as goal

pub returns : goal.returns
returns c = first_law
