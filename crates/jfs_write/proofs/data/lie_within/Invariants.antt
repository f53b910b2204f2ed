use Rattle.std.proofs.Common.{◌≡◌, drop}
use Rattle.jfs_write.specs.Data.{lie_within}
use Rattle.jfs_write.proofs.data.lie_within.Given as goal

abbrev pub invariant-loop-d : goal.invariant-loop-d
invariant-loop-d l = lie_within l.blocks (drop l.d-index l.list) ≡ lie_within l.blocks l.list
