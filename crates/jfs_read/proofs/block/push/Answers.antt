use Rattle.std.proofs.Common.{◌++◌, ◌∙◌, ap, ℕ, List}
use Rattle.jfs_read.proofs.Parts.{part_slice}
use Rattle.jfs_read.proofs.block.push.Goals as goal

pub returns-in-Ok-clause-pushed : goal.returns-in-Ok-clause-pushed
returns-in-Ok-clause-pushed c = c.in-Ok.ensures.ok ∙ ap (λ (xs : List ℕ). c.args.bytes.now ++ xs) (part_slice c.args.page.now c.args.from c.args.count)
