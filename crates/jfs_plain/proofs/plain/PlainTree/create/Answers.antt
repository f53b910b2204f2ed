use Rattle.jfs_plain.proofs.Chained.{became_made, then_ok}
use Rattle.jfs_plain.proofs.plain.PlainTree.create.Goals as goal

pub returns-clause-answer : goal.returns-clause-answer
returns-clause-answer c = (_, then_ok _ c.in_ok-dir.ensures.ok, became_made _ _ _ c.file-node.ensures c.in_ok-add.ensures.ok)
