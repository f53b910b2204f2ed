use Rattle.std.proofs.Common.{◌≡◌, drop}
use Rattle.jfs_reader.specs.xtree.specs.Node.{all_within}
use Rattle.jfs_mount.proofs.blocks.all_within.Given as goal

abbrev pub invariant-loop-x : goal.invariant-loop-x
invariant-loop-x l = all_within l.blocks (drop l.x-index l.extents) ≡ all_within l.blocks l.extents
