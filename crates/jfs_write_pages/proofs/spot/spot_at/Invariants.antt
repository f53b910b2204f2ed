use Rattle.std.proofs.Common.{◌≡◌, true, drop}
use Rattle.jfs_data_steps.specs.xtree.specs.Node.{all_within}
use Rattle.jfs_write_pages.specs.Spots.{spot_at}
use Rattle.jfs_write_pages.proofs.spot.spot_at.Given as goal

abbrev pub invariant-loop-e : goal.invariant-loop-e
invariant-loop-e l = record {
  rest : spot_at (drop l.e-index l.es) l.k ≡ spot_at l.es l.k;
  within : all_within l.blocks (drop l.e-index l.es) ≡ true;
}
