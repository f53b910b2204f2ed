use Rattle.std.proofs.Common.{◌∙◌, rules, max, nat_lt}
use Rattle.jfs_plain.proofs.Chained.{became, and_changed, then_ok, unless_false}
use Rattle.jfs_plain.proofs.plain.PlainTree.truncate.Goals as goal

pub returns-clause-answer : goal.returns-clause-answer
returns-clause-answer c = (_, then_ok _ c.in_ok-n.ensures.ok ∙ unless_false (nat_lt c.args.self.now.file_limit (max c.in_ok-n.node.now.size c.args.size)) _ _ (search rules), and_changed _ _ (became c.cut.ensures) c.resize.ensures)
