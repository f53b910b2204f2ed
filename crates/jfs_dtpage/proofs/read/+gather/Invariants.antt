use Rattle.std.proofs.Common.{length}
use Rattle.jfs_dtpage.proofs.read.+gather.Given as goal

abbrev pub decreases-gather : goal.decreases-gather
decreases-gather l = length l.into.now
