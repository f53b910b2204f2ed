use Rattle.jfs_dtree.proofs.replacing.+end_of_way.Given as goal

abbrev pub decreases-end_of_way : goal.decreases-end_of_way
decreases-end_of_way g l = l.left
