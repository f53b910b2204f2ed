use Rattle.std.proofs.Common.{arith}
use Rattle.jfs_volume.proofs.home_maps.are_bytes.Goals as goal

pub returns : goal.returns
returns c n = omega (arith, c.type_inv.bytes n)
