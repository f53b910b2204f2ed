use Rattle.jfs_xtree.proofs.free_below.free_leaf.Goals as goal

pub returns-clause-met : goal.returns-clause-met
returns-clause-met c = c.leaf_end-cut.ensures c.args.n
