use Rattle.jfs_legal.proofs.Going.{begin_law}
use Rattle.jfs_legal.proofs.law.volumes_that_serve_begin_legally.Goals as goal

pub returns : goal.returns
returns c = begin_law
