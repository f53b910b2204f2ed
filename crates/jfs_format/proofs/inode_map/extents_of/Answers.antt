use Rattle.std.proofs.Common.{◌≡◌, ◌+◌, ◌*◌, arith}
use Rattle.jfs_format.proofs.Maps.{extents-first, extents-later}
use Rattle.jfs_format.proofs.inode_map.extents_of.Goals as goal

pub returns-then-k-eq0-clause-value : goal.returns-then-k-eq0-clause-value
returns-then-k-eq0-clause-value c e most = let is : 128 * c.args.k + e ≡ e = omega (arith, c.if-k-eq0.true) in rw is (extents-first c.args.run e)

pub returns-else-k-eq0-clause-value : goal.returns-else-k-eq0-clause-value
returns-else-k-eq0-clause-value c e most = extents-later c.args.run (128 * c.args.k + e) e (omega (arith, c.if-k-eq0.false))
