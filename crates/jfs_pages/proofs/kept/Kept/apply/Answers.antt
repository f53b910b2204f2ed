use Rattle.std.proofs.Common.{arith}
use Rattle.std.proofs.lemmas.Grind.{common_steps}
use Rattle.std.proofs.lemmas.Bool.Decides.{nat_tests}
use Rattle.jfs_ranges.proofs.Overlaid.{length-apply_edit}
use Rattle.jfs_pages.proofs.kept.Kept.apply.Goals as goal

pub invariant_of-self-clause-sizes : goal.invariant_of-self-clause-sizes
invariant_of-self-clause-sizes c n bytes is =
    let old = c.args.self.now.sizes c.args.n c.in-Some.page.now.value.0 in
    let same = length-apply_edit c.args.n c.args.edit.now c.in-Some.page.now.value.0 in
    grind (arith, common_steps, nat_tests, is, old, same, c.args.self.now.sizes n bytes)

pub invariant_of-self-clause-dirty_there : goal.invariant_of-self-clause-dirty_there
invariant_of-self-clause-dirty_there c n dirty = grind (arith, common_steps, nat_tests, c.args.self.now.dirty_there n dirty)

pub invariant_of-self-clause-held_there : goal.invariant_of-self-clause-held_there
invariant_of-self-clause-held_there c n held = grind (arith, common_steps, nat_tests, c.args.self.now.held_there n held)
