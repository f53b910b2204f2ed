use Rattle.jfs_canonical_maps.proofs.OwnPlaces.{own_places}
use Rattle.jfs_canonical_maps.proofs.law.agreeing_volumes_have_own_places.Goals as goal

pub returns : goal.returns
returns c = own_places
