use Rattle.std.proofs.Common.{◌++◌, ◌∙◌, ap, ℕ, List}
use Rattle.std.proofs.lemmas.List.{take-replicate}
use Rattle.jfs_read.proofs.block.push_zeros.Goals as goal

pub returns-in-Ok-clause-pushed : goal.returns-in-Ok-clause-pushed
returns-in-Ok-clause-pushed c = c.in-Ok.ensures.ok ∙ ap (λ (xs : List ℕ). c.args.bytes.now ++ xs) (take-replicate c.args.count 4096 0 c.requires)
