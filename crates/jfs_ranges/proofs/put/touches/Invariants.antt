use Rattle.std.proofs.Common.{◌≡◌, drop}
use Rattle.jfs_ranges.specs.Apply.{touches_tx}
use Rattle.jfs_ranges.proofs.put.touches.Given as goal

abbrev pub invariant-loop-edit : goal.invariant-loop-edit
invariant-loop-edit l = touches_tx l.n (drop l.edit-index l.tx) ≡ touches_tx l.n l.tx
