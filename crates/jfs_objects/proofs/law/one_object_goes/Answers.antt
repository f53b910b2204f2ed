use Rattle.jfs_objects.proofs.Drop.{object_goes}
use Rattle.jfs_objects.proofs.law.one_object_goes.Goals as goal

pub returns : goal.returns
returns c = object_goes
