use Rattle.std.proofs.Common.{rules}
use Rattle.jfs_buddy.specs.Tree.{rank_at}
use Rattle.jfs_buddy.proofs.tree.rank.Goals as goal

pub returns-clause-value : goal.returns-clause-value
unfolding rank_at
returns-clause-value c = search rules
