use Rattle.std.proofs.Common.{arith}
use Rattle.jfs_logpages.proofs.Joined.{end_within}
use Rattle.jfs_logpages.proofs.group_text.push_ends.Goals as goal

pub overflow_add-start : goal.overflow_add-start
overflow_add-start c = omega (arith, c.requires.small, (end_within 0 c.args.size c.args.more.now c.loop-end.end-index 0 c.requires.ends c.loop-end-test.true).0)
