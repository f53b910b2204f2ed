use Rattle.jfs_held_maps.proofs.Places.{places_law}
use Rattle.jfs_held_maps.proofs.law.files_stay_in_their_places.Goals as goal

pub returns : goal.returns
returns c = places_law
