use Rattle.std.proofs.Common.{◌+◌, ◌*◌}
use Rattle.jfs_tree.proofs.linking.+gaps.Given as goal

abbrev pub decreases-close_gaps : goal.decreases-close_gaps
decreases-close_gaps g l = 2 * l.most + 1

abbrev pub decreases-gaps_below : goal.decreases-gaps_below
decreases-gaps_below g l = 2 * l.most
