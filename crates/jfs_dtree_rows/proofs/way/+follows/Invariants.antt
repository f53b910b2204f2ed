use Rattle.jfs_dtree_rows.proofs.way.+follows.Given as goal

abbrev pub decreases-follows : goal.decreases-follows
decreases-follows l = l.most
