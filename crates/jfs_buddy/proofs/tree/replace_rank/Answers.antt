use Rattle.std.proofs.Common.{arith}
use Rattle.jfs_buddy.proofs.Ranks.{rank_at-set}
use Rattle.jfs_buddy.proofs.tree.replace_rank.Goals as goal

pub returns-clause-now : goal.returns-clause-now
returns-clause-now c m = rank_at-set c.args.tree.now c.args.n m c.args.now c.requires (omega arith)
