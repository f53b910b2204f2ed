use Rattle.jfs_pages_held.proofs.Maps.{maps_law}
use Rattle.jfs_pages_held.proofs.law.volumes_are_held_beside_map_pages.Goals as goal

pub returns : goal.returns
returns c = maps_law
