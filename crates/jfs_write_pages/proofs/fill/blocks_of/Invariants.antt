use Rattle.std.proofs.Common.{◌≡◌, ◌++◌, drop}
use Rattle.jfs_data_steps.specs.page_tree.specs.Form.{AllBelow}
use Rattle.jfs_data_steps.specs.page_tree.specs.Fresh.{blocks_of}
use Rattle.jfs_write_pages.proofs.fill.blocks_of.Given as goal

abbrev pub invariant-loop-run : goal.invariant-loop-run
invariant-loop-run l = record {
  rest : l.news.items ++ blocks_of (drop l.run-index l.run-items) ≡ blocks_of l.run-items;
  below : AllBelow l.blocks (blocks_of (drop l.run-index l.run-items));
}
