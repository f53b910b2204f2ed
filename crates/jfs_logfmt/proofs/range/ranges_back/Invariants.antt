use Rattle.std.proofs.Common.{reverse}
use Rattle.jfs_logfmt.proofs.Ranges.{Known}
use Rattle.jfs_logfmt.proofs.range.ranges_back.Given as goal

abbrev pub invariant-loop-end : goal.invariant-loop-end
invariant-loop-end l = Known l.size l.pages l.body l.end (reverse l.back.items)

abbrev pub decreases-loop-end : goal.decreases-loop-end
decreases-loop-end l = l.end
