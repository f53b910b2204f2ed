use Rattle.jfs_entered.proofs.InUse.{inodes_law}
use Rattle.jfs_entered.proofs.law.marks_make_the_map_after.Goals as goal

pub returns : goal.returns
returns c = inodes_law
