use Rattle.std.proofs.Common.{◌≡◌, ◌+◌, ◌-◌, ◌++◌}
use Rattle.jfs_data_steps.specs.page_tree.specs.Form.{AllBelow}
use Rattle.jfs_data_steps.specs.page_tree.specs.Fresh.{run_from}
use Rattle.jfs_write_pages.proofs.fill.push_blocks.Given as goal

abbrev pub invariant-loop-k : goal.invariant-loop-k
invariant-loop-k l = record {
  rest : l.news.items ++ run_from (l.addr + l.k) (l.len - l.k) ≡ l.fn.news.items ++ run_from l.addr l.len;
  below : AllBelow l.blocks (run_from (l.addr + l.k) (l.len - l.k));
}
