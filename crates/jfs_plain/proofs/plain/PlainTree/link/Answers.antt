use Rattle.std.proofs.Common.{◌∙◌, rules}
use Rattle.jfs_plain.specs.Tree.{is_dir}
use Rattle.jfs_plain.specs.Step.{is_full}
use Rattle.jfs_plain.proofs.Chained.{became, and_changed, then_ok, unless_false}
use Rattle.jfs_plain.proofs.plain.PlainTree.link.Goals as goal

pub returns-clause-answer : goal.returns-clause-answer
returns-clause-answer c = (
  _,
  then_ok _ c.in_ok-n.ensures.ok ∙ unless_false (is_dir c.in_ok-n.node.now.kind) _ _ (search rules) ∙ then_ok _ c.in_ok-dir.ensures.ok ∙ unless_false (is_full c.in_ok-n.node.now.links) _ _ (search rules),
  and_changed _ _ (and_changed _ _ (became c.in_ok-gain.ensures.ok) c.rise.ensures) c.stamp.ensures,
)
