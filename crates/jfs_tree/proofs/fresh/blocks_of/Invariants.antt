use Rattle.std.proofs.Common.{◌≡◌, take}
use Rattle.jfs_tree.specs.Fresh.{blocks_of}
use Rattle.jfs_tree.proofs.fresh.blocks_of.Given as goal

abbrev pub invariant-loop-pxd : goal.invariant-loop-pxd
invariant-loop-pxd l = l.all.items ≡ blocks_of (take l.pxd-index l.pxd-items)
