use Rattle.jfs_ways.proofs.below.+look_below.Given as goal

abbrev pub decreases-look_below : goal.decreases-look_below
decreases-look_below g l = l.most
