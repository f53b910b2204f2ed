use Rattle.std.proofs.Common.{arith}
use Rattle.std.proofs.lemmas.Grind.{common_steps}
use Rattle.jfs_pages.proofs.wanted.wanted_pages.Goals as goal

pub push_pages-requires : goal.push_pages-requires
push_pages-requires c n touched = grind (arith, common_steps, c.loop-edit.invariant.numbers n, touched)

pub loop-edit-preserved : goal.loop-edit-preserved
loop-edit-preserved c = record {
  pages = λ q. grind (arith, common_steps, c.loop-edit.invariant.pages q, c.in_ok-push_pages.ensures q);
  numbers = λ q touched. grind (arith, common_steps, c.loop-edit.invariant.numbers q, touched);
}
