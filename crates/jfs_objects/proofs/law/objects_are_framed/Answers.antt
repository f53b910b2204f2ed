use Rattle.jfs_objects.proofs.Framed.{same_spelled}
use Rattle.jfs_objects.proofs.law.objects_are_framed.Goals as goal

pub returns : goal.returns
returns c = same_spelled
