use Rattle.std.proofs.Common.{◌∙◌, ap, sym, rules, Ok, not}
use Rattle.jfs_plain.specs.Tree.{is_link}
use Rattle.jfs_plain.specs.declared.reply.Reply.TheVariants.{Target}
use Rattle.jfs_plain.specs.Plain.{tree_of}
use Rattle.jfs_plain.proofs.Chained.{same, then_ok, unless_false}
use Rattle.jfs_plain.proofs.plain.PlainTree.readlink.Goals as goal

pub returns : goal.returns
returns c = (_, then_ok _ c.in_ok-node.ensures.ok ∙ unless_false (not (is_link c.in_ok-node.node.now.kind)) _ _ (search rules) ∙ ap (λ x. Ok (Target x, tree_of c.args.self.now)) (sym c.in_ok-copy_bytes.ensures), same _)
