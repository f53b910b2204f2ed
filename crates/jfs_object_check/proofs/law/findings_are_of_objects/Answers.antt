-- Kind by kind.
use Rattle.jfs_object_check.proofs.OfObjects.{objects_law}
use Rattle.jfs_object_check.proofs.law.findings_are_of_objects.Goals as goal

pub returns : goal.returns
returns c = objects_law
