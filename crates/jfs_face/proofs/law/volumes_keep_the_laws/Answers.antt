use Rattle.jfs_face.proofs.Whole.{volumes_are_faces}
use Rattle.jfs_face.proofs.law.volumes_keep_the_laws.Goals as goal

pub returns : goal.returns
returns c = volumes_are_faces
