use Rattle.jfs_imap.proofs.Trees.{tree-small}
use Rattle.jfs_imap.proofs.summary.Summary.set.Goals as goal

pub mark-requires-clause-small : goal.mark-requires-clause-small
mark-requires-clause-small c = tree-small c.self.inside.height c.self.inside.leaves c.self.inside.nodes.items c.self.invariant
