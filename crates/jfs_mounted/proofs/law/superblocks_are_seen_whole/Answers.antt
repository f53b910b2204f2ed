use Rattle.jfs_mounted.proofs.Whole.{whole_law}
use Rattle.jfs_mounted.proofs.law.superblocks_are_seen_whole.Goals as goal

pub returns : goal.returns
returns c = whole_law
