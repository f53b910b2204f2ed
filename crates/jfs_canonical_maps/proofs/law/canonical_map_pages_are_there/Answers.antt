use Rattle.jfs_canonical_maps.proofs.Pages.{map_pages}
use Rattle.jfs_canonical_maps.proofs.law.canonical_map_pages_are_there.Goals as goal

pub returns : goal.returns
returns c = map_pages
