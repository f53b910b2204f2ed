use Rattle.std.proofs.Common.{refl, arith}
use Rattle.jfs_files_rows.proofs.volume.block_map.Goals as goal

pub from_set-requires-clause-groups : goal.from_set-requires-clause-groups
from_set-requires-clause-groups c = record {
  some = omega arith;
  least = omega arith;
  power = (13, refl);
  most = omega arith;
}
