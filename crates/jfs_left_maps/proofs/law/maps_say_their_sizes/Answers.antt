use Rattle.jfs_left_maps.proofs.Sizes.{sizes_law}
use Rattle.jfs_left_maps.proofs.law.maps_say_their_sizes.Goals as goal

pub returns : goal.returns
returns c = sizes_law
