use Rattle.jfs_objects.proofs.Owned.{owned_once}
use Rattle.jfs_objects.proofs.law.owners_are_single.Goals as goal

pub returns : goal.returns
returns c = owned_once
