use Rattle.jfs_tree.proofs.linking.+link_behind.Given as goal

abbrev pub decreases-link_behind : goal.decreases-link_behind
decreases-link_behind g l = l.most
