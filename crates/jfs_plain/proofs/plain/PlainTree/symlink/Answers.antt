use Rattle.std.proofs.Common.{◌∙◌, ap}
use Rattle.jfs_plain.specs.Moves.{new_link}
use Rattle.jfs_plain.proofs.Chained.{became_made, then_ok}
use Rattle.jfs_plain.proofs.plain.PlainTree.symlink.Goals as goal

pub returns-clause-answer : goal.returns-clause-answer
returns-clause-answer c = (_, then_ok _ c.in_ok-dir.ensures.ok, became_made _ _ _ (c.link-node.ensures ∙ ap (λ x. new_link x c.args.now) c.in_ok-kept.ensures) c.in_ok-add.ensures.ok)
