use Rattle.jfs_mounted_places.proofs.Places.{known_law}
use Rattle.jfs_mounted_places.proofs.law.known_files_stand_in_places.Goals as goal

pub returns : goal.returns
returns c = known_law
