use Rattle.jfs_tree.proofs.leftmost.+lower_below.Given as goal

abbrev pub decreases-lower_below : goal.decreases-lower_below
decreases-lower_below g l = l.most
