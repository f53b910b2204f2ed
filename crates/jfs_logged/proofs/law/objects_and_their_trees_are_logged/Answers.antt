use Rattle.jfs_logged.proofs.Written.{trees_law}
use Rattle.jfs_logged.proofs.law.objects_and_their_trees_are_logged.Goals as goal

pub returns : goal.returns
returns c = trees_law
