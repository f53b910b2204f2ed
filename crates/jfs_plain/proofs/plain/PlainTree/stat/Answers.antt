use Rattle.std.proofs.Common.{◌∙◌, ap, sym, Ok}
use Rattle.jfs_plain.specs.declared.reply.Reply.TheVariants.{Attr}
use Rattle.jfs_plain.specs.Plain.{tree_of}
use Rattle.jfs_plain.proofs.Chained.{same, then_ok}
use Rattle.jfs_plain.proofs.plain.PlainTree.stat.Goals as goal

pub returns : goal.returns
returns c = (_, then_ok _ c.in_ok-n.ensures.ok ∙ ap (λ s. Ok (Attr s, tree_of c.args.self.now)) (sym c.stat.ensures), same _)
