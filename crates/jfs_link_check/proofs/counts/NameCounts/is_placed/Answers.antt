-- The root, and a directory below it.
use Rattle.std.proofs.Common.{length}
use Rattle.jfs_link_check.proofs.Due.{top_placed, below_placed}
use Rattle.jfs_link_check.proofs.counts.NameCounts.is_placed.Goals as goal

pub returns-then-parent-eq2 : goal.returns-then-parent-eq2
returns-then-parent-eq2 c names all past = top_placed names (length c.args.self.now.counts) c.args.n c.args.parent c.has_links.result c.if-n-eq2.true c.if-parent-eq2.true (c.has_links.ensures names all)

pub returns-else-n-eq2 : goal.returns-else-n-eq2
returns-else-n-eq2 c names all past = below_placed names (length c.args.self.now.counts) c.args.n c.args.parent c.is_named_once_by.result c.if-n-eq2.false (c.is_named_once_by.ensures names all past)
