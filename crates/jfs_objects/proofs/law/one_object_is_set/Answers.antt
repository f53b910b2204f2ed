use Rattle.jfs_objects.proofs.Set.{object_is_set}
use Rattle.jfs_objects.proofs.law.one_object_is_set.Goals as goal

pub returns : goal.returns
returns c = object_is_set
