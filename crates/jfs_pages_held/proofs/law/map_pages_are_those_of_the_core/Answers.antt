use Rattle.jfs_pages_held.proofs.Bytes.{map_home_law}
use Rattle.jfs_pages_held.proofs.law.map_pages_are_those_of_the_core.Goals as goal

pub returns : goal.returns
returns c = map_home_law
