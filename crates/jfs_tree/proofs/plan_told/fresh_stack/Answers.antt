use Rattle.std.proofs.Common.{sym, ap, ◌∙◌, subst}
use Rattle.std.specs.Prelude.{reverse}
use Rattle.jfs_tree.specs.Form.{AllBelow}
use Rattle.jfs_tree.specs.Fresh.{blocks_of}
use Rattle.jfs_tree.proofs.Runs.{below_reverse}
use Rattle.jfs_tree.proofs.plan_told.fresh_stack.Goals as goal

pub returns-clause-within : goal.returns-clause-within
returns-clause-within c =
    subst (AllBelow c.args.blocks) (sym (c.reversed.ensures ∙ ap reverse c.in_ok-all.ensures)) (below_reverse c.args.blocks (blocks_of c.args.fresh.now) c.requires)
