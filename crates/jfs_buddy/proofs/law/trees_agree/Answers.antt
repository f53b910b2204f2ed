use Rattle.jfs_buddy.proofs.Same.{trees-same}
use Rattle.jfs_buddy.proofs.law.trees_agree.Goals as goal

pub returns : goal.returns
returns c = trees-same
