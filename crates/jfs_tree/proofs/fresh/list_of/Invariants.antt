use Rattle.std.proofs.Common.{◌≡◌, take}
use Rattle.jfs_tree.specs.Fresh.{blocks_of}
use Rattle.jfs_tree.proofs.fresh.list_of.Given as goal

abbrev pub invariant-loop-n : goal.invariant-loop-n
invariant-loop-n l = blocks_of l.list ≡ take l.n-index l.blocks
