use Rattle.jfs_face.proofs.Marked.{untold_stay}
use Rattle.jfs_face.proofs.law.other_map_pages_stay.Goals as goal

pub returns : goal.returns
returns c = untold_stay
