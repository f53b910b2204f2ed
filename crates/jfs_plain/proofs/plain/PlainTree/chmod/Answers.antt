use Rattle.jfs_plain.proofs.Chained.{became, and_changed, then_ok}
use Rattle.jfs_plain.proofs.plain.PlainTree.chmod.Goals as goal

pub returns-clause-answer : goal.returns-clause-answer
returns-clause-answer c = (_, then_ok _ c.in_ok-n.ensures.ok, and_changed _ _ (became c.permit.ensures) c.stamp.ensures)
