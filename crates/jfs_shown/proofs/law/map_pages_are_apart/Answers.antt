use Rattle.jfs_shown.proofs.Files.{own_law}
use Rattle.jfs_shown.proofs.law.map_pages_are_apart.Goals as goal

pub returns : goal.returns
returns c = own_law
