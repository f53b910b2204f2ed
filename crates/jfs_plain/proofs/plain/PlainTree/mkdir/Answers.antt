use Rattle.std.proofs.Common.{◌∙◌, rules}
use Rattle.jfs_plain.specs.Step.{is_full, links_of}
use Rattle.jfs_plain.specs.Plain.{tree_of}
use Rattle.jfs_plain.proofs.Chained.{became_made, and_changed, then_ok, unless_false}
use Rattle.jfs_plain.proofs.plain.PlainTree.mkdir.Goals as goal

pub returns-clause-answer : goal.returns-clause-answer
returns-clause-answer c = (_, then_ok _ c.in_ok-dir.ensures.ok ∙ unless_false (is_full (links_of (tree_of c.args.self.now) c.in_ok-dir.dir)) _ _ (search rules), and_changed _ _ (became_made _ _ _ c.directory-node.ensures c.in_ok-add.ensures.ok) c.rise.ensures)
