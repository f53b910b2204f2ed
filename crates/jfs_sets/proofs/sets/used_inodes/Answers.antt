use Rattle.jfs_sets.proofs.Files.{inodes-read}
use Rattle.jfs_sets.proofs.sets.used_inodes.Goals as goal

pub returns-clause-used : goal.returns-clause-used
returns-clause-used g c = λ tells. inodes-read (g.V.PageView.image c.args.view.now) c.args.maps.now c.read_parts.result (rw c.as_slice.ensures at (c.read_parts.ensures.parts tells))
