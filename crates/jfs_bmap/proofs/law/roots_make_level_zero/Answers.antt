use Rattle.jfs_bmap.proofs.Agreed.{level-zero-same}
use Rattle.jfs_bmap.proofs.law.roots_make_level_zero.Goals as goal

pub returns : goal.returns
returns c = level-zero-same
