use Rattle.std.proofs.Common.{arith}
use Rattle.jfs_redo.proofs.maps.are_bytes.Goals as goal

pub returns : goal.returns
returns c n = omega (arith, c.type_inv.bytes n)
