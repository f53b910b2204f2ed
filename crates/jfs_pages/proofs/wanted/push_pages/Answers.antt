use Rattle.std.proofs.Common.{◌≡◌, true, ◌∙◌, arith}
use Rattle.std.proofs.lemmas.Bool.Decides.{nat_tests}
use Rattle.jfs_ranges.specs.Apply.{touches_edit}
use Rattle.jfs_pages.proofs.wanted.push_pages.Goals as goal

pub overflow_cast-n : goal.overflow_cast-n
overflow_cast-n c =
    let touched : touches_edit c.loop-n.n c.args.edit.now ≡ true = c.pages-touched.ensures c.loop-n.n ∙ grind (arith, nat_tests, c.loop-n.invariant.from, c.loop-n-test.true) in
    omega (arith, c.requires c.loop-n.n touched)
