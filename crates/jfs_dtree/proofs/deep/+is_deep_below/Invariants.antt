use Rattle.jfs_dtree.proofs.deep.+is_deep_below.Given as goal

abbrev pub decreases-is_deep_below : goal.decreases-is_deep_below
decreases-is_deep_below g l = l.left
