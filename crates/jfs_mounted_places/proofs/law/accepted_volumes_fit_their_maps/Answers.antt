use Rattle.jfs_mounted_places.proofs.Places.{fit_law}
use Rattle.jfs_mounted_places.proofs.law.accepted_volumes_fit_their_maps.Goals as goal

pub returns : goal.returns
returns c = fit_law
