use Rattle.std.proofs.Common.{◌+◌, ◌*◌, length}
use Rattle.jfs_put_range.proofs.descent.+put.Given as goal

abbrev pub decreases-put_below : goal.decreases-put_below
decreases-put_below g l = 1000 * l.most

abbrev pub decreases-put_child : goal.decreases-put_child
decreases-put_child g l = 1000 * l.most + 1

abbrev pub decreases-put_both : goal.decreases-put_both
decreases-put_both g l = 1000 * l.most + 3 + 3 * length l.rest.now

abbrev pub decreases-put_from : goal.decreases-put_from
decreases-put_from g l = 1000 * l.most + 1 + 3 * length l.entries.now

abbrev pub decreases-put_children : goal.decreases-put_children
decreases-put_children g l = 1000 * l.most + 2 + 3 * length l.entries.now
