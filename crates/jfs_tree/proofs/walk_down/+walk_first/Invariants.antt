use Rattle.jfs_tree.proofs.walk_down.+walk_first.Given as goal

abbrev pub decreases-walk_first : goal.decreases-walk_first
decreases-walk_first g l = l.most
