use Rattle.std.proofs.Common.{◌≡◌, drop}
use Rattle.jfs_ranges.specs.Apply.{touches_tx}
use Rattle.jfs_volume.proofs.runs.touches_from.Given as goal

abbrev pub invariant-loop-i : goal.invariant-loop-i
invariant-loop-i l = touches_tx l.n (drop l.i l.edits) ≡ touches_tx l.n (drop l.from l.edits)
