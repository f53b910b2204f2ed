use Rattle.std.proofs.Common.{◌∙◌, arith}
use Rattle.std.proofs.lemmas.Grind.{common_steps}
use Rattle.jfs_pages.proofs.kept.Kept.edit_all.Goals as goal

pub edit-requires-clause-numbers : goal.edit-requires-clause-numbers
edit-requires-clause-numbers c n touched = grind (arith, common_steps, c.loop-edit.invariant.numbers n, touched)

pub loop-edit-preserved : goal.loop-edit-preserved
loop-edit-preserved c = record {
  pages = λ q. grind (arith, common_steps, c.loop-edit.invariant.pages q, c.edit.ensures.pages q);
  dirty = λ q. grind (arith, common_steps, c.loop-edit.invariant.dirty q, c.edit.ensures.dirty q);
  held = c.edit.ensures.held ∙ c.loop-edit.invariant.held;
  rest = λ q touched. grind (arith, common_steps, c.loop-edit.invariant.rest q, touched);
  numbers = λ q touched. grind (arith, common_steps, c.loop-edit.invariant.numbers q, touched);
}
