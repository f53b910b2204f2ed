use Rattle.jfs_face.proofs.Mounted.{seen_as_it_is}
use Rattle.jfs_face.proofs.law.mounted_volumes_are_seen_as_they_are.Goals as goal

pub returns : goal.returns
returns c = seen_as_it_is
