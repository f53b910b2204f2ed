use Rattle.jfs_put_range_rows.proofs.links.+follows.Given as goal

abbrev pub decreases-follows : goal.decreases-follows
decreases-follows l = l.most
