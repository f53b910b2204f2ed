use Rattle.jfs_plain.proofs.Short.{path_short}
use Rattle.jfs_plain.proofs.law.names_of_paths_are_short.Goals as goal

pub returns : goal.returns
returns c = path_short
