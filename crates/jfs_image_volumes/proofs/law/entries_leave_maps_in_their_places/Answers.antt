use Rattle.jfs_image_volumes.proofs.Places.{places_law}
use Rattle.jfs_image_volumes.proofs.law.entries_leave_maps_in_their_places.Goals as goal

pub returns : goal.returns
returns c = places_law
