use Rattle.std.proofs.Common.{◌≡◌, ◌&&◌, nat_le, nat_lt, true, ◌∙◌, arith}
use Rattle.std.proofs.lemmas.Bool.Decides.{nat_tests}
use Rattle.jfs_ranges.specs.Apply.{touches_edit}
use Rattle.jfs_pages.proofs.Edited.{edited}
use Rattle.jfs_pages.proofs.kept.Kept.edit.Goals as goal

pub overflow_cast-n : goal.overflow_cast-n
overflow_cast-n c =
    let touched : touches_edit c.loop-n.n c.args.edit.now ≡ true = c.pages-pages.ensures c.loop-n.n ∙ grind (arith, nat_tests, c.loop-n.invariant.from, c.loop-n-test.true) in
    omega (arith, c.requires.numbers c.loop-n.n touched)

pub returns-clause-pages : goal.returns-clause-pages
returns-clause-pages c q =
    let touched : touches_edit q c.args.edit.now ≡ (nat_le c.pages-pages.result.first q && nat_lt q c.loop-n.n) =
    c.pages-pages.ensures q ∙ grind (arith, nat_tests, c.loop-n.invariant.from, c.loop-n.invariant.to, c.loop-n-test.false) in
    edited q c.args.edit.now _ _ _ (c.args.self.now.sizes q) touched (c.loop-n.invariant.pages q)

pub returns-clause-dirty : goal.returns-clause-dirty
returns-clause-dirty c q =
    let touched : touches_edit q c.args.edit.now ≡ (nat_le c.pages-pages.result.first q && nat_lt q c.loop-n.n) =
    c.pages-pages.ensures q ∙ grind (arith, nat_tests, c.loop-n.invariant.from, c.loop-n.invariant.to, c.loop-n-test.false) in
    rw touched (c.loop-n.invariant.dirty q)
