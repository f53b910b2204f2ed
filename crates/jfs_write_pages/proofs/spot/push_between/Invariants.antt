use Rattle.std.proofs.Common.{◌≡◌, ◌++◌, true, drop}
use Rattle.jfs_data_steps.specs.xtree.specs.Node.{all_within}
use Rattle.jfs_write_pages.specs.Spots.{spots_between}
use Rattle.jfs_write_pages.proofs.spot.push_between.Given as goal

abbrev pub invariant-loop-e : goal.invariant-loop-e
invariant-loop-e l = record {
  rest : l.spots.items ++ spots_between l.from l.to (drop l.e-index l.es) ≡ l.fn.spots.items ++ spots_between l.from l.to l.es;
  within : all_within l.blocks (drop l.e-index l.es) ≡ true;
}
