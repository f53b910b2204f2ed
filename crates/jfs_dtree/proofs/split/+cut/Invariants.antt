use Rattle.std.proofs.Common.{length}
use Rattle.jfs_dtree.proofs.split.+cut.Given as goal

abbrev pub decreases-cut : goal.decreases-cut
decreases-cut l = length l.before.now
