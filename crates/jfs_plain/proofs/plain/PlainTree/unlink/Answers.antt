use Rattle.std.proofs.Common.{◌∙◌, rules}
use Rattle.jfs_plain.specs.Tree.{is_dir}
use Rattle.jfs_plain.specs.Step.{is_last_of_big}
use Rattle.jfs_plain.proofs.Chained.{became, and_unnamed, then_ok, unless_false}
use Rattle.jfs_plain.proofs.plain.PlainTree.unlink.Goals as goal

pub returns-clause-answer : goal.returns-clause-answer
returns-clause-answer c = (
  _,
  then_ok _ c.in_ok-n.ensures.ok ∙ unless_false (is_dir c.in_ok-n.node.now.kind) _ _ (search rules) ∙ unless_false (is_last_of_big c.args.self.now.file_limit c.in_ok-n.node.now) _ _ (search rules) ∙ then_ok _ c.in_ok-dir.ensures.ok,
  and_unnamed _ _ _ (became c.lose.ensures) c.unname.ensures,
)
