use Rattle.std.proofs.Common.{◌∙◌, rules, not, ◌==◌, length}
use Rattle.jfs_plain.specs.Tree.{is_dir}
use Rattle.jfs_plain.specs.Step.{has_names}
use Rattle.jfs_plain.proofs.Chained.{became, and_changed, and_dropped, then_ok, unless_false}
use Rattle.jfs_plain.proofs.plain.PlainTree.rmdir.Goals as goal

pub returns-clause-answer : goal.returns-clause-answer
returns-clause-answer c = (
  _,
  unless_false (length c.args.path.now == 0) _ _ (search rules) ∙ then_ok _ c.in_ok-n.ensures.ok ∙ unless_false (not (is_dir c.in_ok-n.node.now.kind)) _ _ (search rules) ∙ unless_false (has_names c.in_ok-n.node.now) _ _ (search rules) ∙ then_ok _ c.in_ok-dir.ensures.ok,
  and_dropped _ (and_changed _ _ (became c.lose.ensures) c.fall.ensures) c.destroy.ensures,
)
