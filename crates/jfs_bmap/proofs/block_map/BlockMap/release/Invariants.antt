use Rattle.std.proofs.Common.{◌≡◌, take}
use Rattle.jfs_bmap.specs.States.{released}
use Rattle.jfs_bmap.proofs.block_map.BlockMap.release.Given as goal

abbrev pub invariant-loop-i : goal.invariant-loop-i
invariant-loop-i l = l.self ≡ released (take l.i l.list) l.entry l.initial.self
