use Rattle.std.proofs.Common.{◌≡◌, ◌≤◌, true, drop}
use Rattle.jfs_data_steps.specs.xtree.specs.Node.{all_within}
use Rattle.jfs_write_pages.specs.Spots.{last_end}
use Rattle.jfs_write_pages.proofs.within.hint_behind.Given as goal

abbrev pub invariant-loop-e : goal.invariant-loop-e
invariant-loop-e l = record {
  rest : last_end l.hint (drop l.e-index l.es) ≡ last_end 0 l.es;
  within : all_within l.blocks (drop l.e-index l.es) ≡ true;
  most : l.hint ≤ l.blocks;
}
