use Rattle.jfs_tree.proofs.grow.+add_below.Given as goal

abbrev pub decreases-add_below : goal.decreases-add_below
decreases-add_below g l = l.most
