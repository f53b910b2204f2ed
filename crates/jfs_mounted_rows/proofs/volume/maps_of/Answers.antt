use Rattle.std.proofs.Common.{refl, sym, subst, arith}
use Rattle.jfs_volume.specs.Busy.{IsIdle}
use Rattle.jfs_mounted_rows.proofs.Fresh.{fresh_idle}
use Rattle.jfs_mounted_rows.proofs.volume.maps_of.Goals as goal

pub from_set-requires-clause-groups : goal.from_set-requires-clause-groups
from_set-requires-clause-groups c = record {
  some = omega arith;
  least = omega arith;
  power = (13, refl);
  most = omega arith;
}

pub returns-clause-idle : goal.returns-clause-idle
returns-clause-idle c = subst IsIdle (sym c.in-Ok.ensures) (fresh_idle _ 3008 8192)
